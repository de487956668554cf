use Rattle.std.proofs.Common.{ℕ, ◌-◌, ◌*◌, ◌≤◌, sym, ap, subst}
use Rattle.plans.proofs.Striking.{struck_few, tally_step}
use Rattle.plans.proofs.plan.Plan.tally.Goals as goal

pub overflow_sub-result : goal.overflow_sub-result
overflow_sub-result c =
    let p = c.args.self.now in
    let P : ℕ → Type 0 = λ x. x ≤ p.units * p.bays in
    subst P (sym c.total.ensures) (struck_few p)

pub returns : goal.returns
returns c = tally_step c.args.self.now _ (ap (λ x. c.args.self.now.units * c.args.self.now.bays - x) c.total.ensures)
