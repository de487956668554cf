use Rattle.std.proofs.Common.{ℕ, ◌^◌, ◌<◌, length, sym, refl, subst, arith, rules}
use lib.Bits.{or_lt}
use lib.Pow.{pow-lt}
use Rattle.std.proofs.lemmas.Nat.{one_shl}
use Rattle.ledgers.specs.Ledger.{accepted}
use Rattle.plans.proofs.Striking.{strike_step, put_inside, put_blank}
use Rattle.plans.proofs.plan.Plan.strike.Goals as goal

pub invariant_of-self-clause-inside : goal.invariant_of-self-clause-inside
invariant_of-self-clause-inside c =
    let p = c.args.self.now in
    let e = c.in_ok-row.ensures in
    let lt : c.args.unit < length p.struck = search rules in
    let l64 : c.args.bay < 64 = (let f = p.few_bays in let b = e.inside.1 in omega arith) in
    let P : ℕ → Type 0 = λ x. x < 2 ^ p.bays in
    put_inside p.bays p.struck c.args.unit _ lt
    (or_lt p.bays _ _ (subst P (sym e.row) (p.inside c.args.unit)) (subst P (sym (one_shl c.args.bay 64 l64)) (pow-lt e.inside.1))) p.inside

pub invariant_of-self-clause-blank : goal.invariant_of-self-clause-blank
invariant_of-self-clause-blank c = let p = c.args.self.now in put_blank p.units p.struck c.args.unit _ c.in_ok-row.ensures.inside.0 p.blank

pub returns : goal.returns
returns c =
    let p = c.args.self.now in
    let e = c.in_ok-row.ensures in
    let lt : c.args.unit < length p.struck = search rules in
    strike_step p _ c.args.unit c.args.bay c.in_ok-row.row (e.tests accepted) e.inside.1 lt e.row refl refl refl refl refl
