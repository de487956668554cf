use Rattle.std.proofs.Common.{◌≡◌, ℕ, ◌<◌, ◌≤◌, List, length, get_or, set, None, Some, sym, refl, ap, ◌∙◌, subst, rules}
use Rattle.std.proofs.lemmas.List.{set-set, set-get_or}
use Rattle.search.specs.Walk.{Setting, setting}
use Rattle.tables.specs.Shape.{Inside, Blank}
use Rattle.ledgers.specs.Wanted.{Fair, held_to}
use Rattle.ledgers.specs.Ledger.{open_pairs}
use Rattle.plans.specs.Step.{view}
use Rattle.plans.proofs.Fitting.{fitted_inside, fitted_blank}
use Rattle.plans.proofs.Searching.{Came, held_ready, first_came, not_ill, asked_yes, asked_none}
use Rattle.plans.proofs.plan.Plan.what_if.Given.{Over}
use Rattle.plans.proofs.plan.Plan.what_if.Goals.{After-first}
use Rattle.plans.proofs.plan.Plan.what_if.Goals as goal

-- the guard has put the row back
put_back : (rows now : List ℕ) (u x : ℕ) → now ≡ set (set rows u x) u (get_or rows u 0) → now ≡ rows
put_back rows now u x e = e ∙ set-set rows u x (get_or rows u 0) ∙ set-get_or rows u 0

abbrev shown : (g : Over) → After-first g → Setting
shown g c = setting (g.A.Source.graph c.args.problem.now.arrangement.now) (g.R.Source.graph c.args.problem.now.room.now) c.args.problem.now.strict (g.F.Filter.left c.args.filter.now)

fair : (g : Over) (c : After-first g) → Fair (shown g c)
fair g c = record { arrangement = g.A.Source.sound c.args.problem.now.arrangement.now; room = g.R.Source.sound c.args.problem.now.room.now; filter = g.met.F.Filter.lawful c.args.filter.now }

came : (g : Over) (c : After-first g) → Came c.args.self.now (shown g c) (held_to (open_pairs (view c.args.self.now)) c.args.unit c.args.bay) None c.first.result
came g c =
    let p = c.args.self.now in
    let rows = c.without-rows.result in
    let fitted = c.in-Some.fitted in
    let long : p.units ≤ length rows = search rules in
    let lt : c.args.unit < length fitted = search rules in
    first_came p (shown g c) _ _ _
    (held_ready p (shown g c) fitted rows c.args.unit c.args.bay long lt c.in_ok-in_range.ensures.inside.1 c.in-Some.is c.in_ok-same_counts.ensures c.without-rows.ensures)
    (fair g c) c.first.ensures.theorem c.first.ensures.answer

pub outcome-requires : goal.outcome-requires
outcome-requires g c = not_ill c.args.self.now (shown g c) (held_to (open_pairs (view c.args.self.now)) c.args.unit c.args.bay) None c.first.result (came g c)

pub invariant_of-self-in_err-find-clause-fitted_inside : goal.invariant_of-self-in_err-find-clause-fitted_inside
invariant_of-self-in_err-find-clause-fitted_inside g c = let p = c.args.self.now in subst (λ r. Inside p.bays r) (sym (put_back c.in-Some.fitted _ c.args.unit _ c.drop-guard.ensures)) (fitted_inside p c.in-Some.fitted c.in-Some.is)

pub invariant_of-self-in_err-find-clause-fitted_blank : goal.invariant_of-self-in_err-find-clause-fitted_blank
invariant_of-self-in_err-find-clause-fitted_blank g c = let p = c.args.self.now in subst (λ r. Blank p.units r) (sym (put_back c.in-Some.fitted _ c.args.unit _ c.drop-guard.ensures)) (fitted_blank p c.in-Some.fitted c.in-Some.is)

pub returns-in_err-find : goal.returns-in_err-find
returns-in_err-find g c =
    let p = c.args.self.now in
    let k = (goal.at.returns-in_err-find g c).After-first in
    let fitted = c.in-Some.fitted in
    let back = put_back fitted _ c.args.unit _ c.drop-guard.ensures in
    record {
      step = asked_none p _ (shown g k) fitted c.args.unit c.args.bay c.in_ok-in_range.ensures.tests c.in-Some.is c.in_ok-same_counts.ensures
          (record { units = refl; bays = refl; struck = refl; fitted = ap Some back ∙ sym c.in-Some.is; last = refl }) c.first.result _ c.from_residual-in_err-find.result (came g k) c.in_err-find.ensures c.from_residual-in_err-find.ensures.1;
      shows = fair g k;
    }

pub returns-clause-step : goal.returns-clause-step
returns-clause-step g c =
    let p = c.args.self.now in
    let k = (goal.at.returns-clause-step g c).After-first in
    let fitted = c.in-Some.fitted in
    let back = put_back fitted _ c.args.unit _ c.drop-guard-2.ensures in
    asked_yes p _ (shown g k) fitted c.args.unit c.args.bay c.in_ok-in_range.ensures.tests c.in-Some.is c.in_ok-same_counts.ensures
    (record { units = refl; bays = refl; struck = refl; fitted = ap Some back ∙ sym c.in-Some.is; last = refl }) c.first.result c.in_ok-find.find (came g k) c.in_ok-find.ensures
