use Rattle.std.proofs.Common.{◌≡◌, ◌≤◌, List, ℕ, length, Some, Option, arith, refl, rules}
use Rattle.search.specs.Walk.{Setting, setting}
use Rattle.ledgers.specs.Calls.{further}
use Rattle.ledgers.specs.Wanted.{Fair}
use Rattle.plans.specs.Step.{shortened}
use Rattle.plans.proofs.Searching.{Looks, further_looks, open_is, shaped_well, found_got, found_step, lost_step}
use Rattle.plans.proofs.plan.Plan.further.Given.{Over}
use Rattle.plans.proofs.plan.Plan.further.Goals.{After-next_after}
use Rattle.plans.proofs.plan.Plan.further.Goals as goal

abbrev shown : (g : Over) → After-next_after g → Setting
shown g c = setting (g.A.Source.graph c.args.problem.now.arrangement.now) (g.R.Source.graph c.args.problem.now.room.now) c.args.problem.now.strict (g.F.Filter.left c.args.filter.now)

abbrev latest : (g : Over) → After-next_after g → Option (List ℕ)
latest g c = shortened c.args.self.now.units c.args.self.now.last

fair : (g : Over) (c : After-next_after g) → Fair (shown g c)
fair g c = record { arrangement = g.A.Source.sound c.args.problem.now.arrangement.now; room = g.R.Source.sound c.args.problem.now.room.now; filter = g.met.F.Filter.lawful c.args.filter.now }

looks : (g : Over) (c : After-next_after g) → Looks c.args.self.now (shown g c) (latest g c) c.args.out.now (further (shown g c) c.args.out.now) c.next_after.result
looks g c =
    let long : c.args.self.now.units ≤ length c.without-rows.result = search rules in
    let all = open_is c.args.self.now c.in_ok-fitted.fitted.now c.without-rows.result c.in_ok-fitted.ensures.rows c.without-rows.ensures in
    let far : c.args.self.now.units ≤ length c.in_ok-last.last = search rules in
    let was : c.args.self.now.last ≡ Some c.in_ok-last.last = grind arith in
    further_looks c.args.self.now (shown g c) c.without-rows.result c.args.out.now c.next_after.result (fair g c)
    c.in_ok-fitted.ensures.tests all long c.if-out-units.false c.in_ok-last.last was far c.next_after.ensures.theorem c.next_after.ensures.answer

pub outcome-requires : goal.outcome-requires
outcome-requires g c = shaped_well c.args.self.now (shown g c) (latest g c) c.args.out.now _ c.next_after.result (looks g c)

pub returns-in_err-next : goal.returns-in_err-next
returns-in_err-next g c =
    let k = (goal.at.returns-in_err-next g c).After-next_after in
    record {
      step = lost_step c.args.self.now (shown g k) (latest g k) c.args.out.now _ c.next_after.result (looks g k) _ c.from_residual-in_err-next.result c.in_err-next.ensures c.from_residual-in_err-next.ensures.1;
      shows = fair g k;
    }

pub invariant_of-self-clause-last_low : goal.invariant_of-self-clause-last_low
invariant_of-self-clause-last_low g c =
    let k = (goal.at.invariant_of-self-clause-last_low g c).After-next_after in
    (found_got c.args.self.now (shown g k) (latest g k) c.args.out.now _ c.next_after.result (looks g k) c.in_ok-next.next c.in_ok-next.ensures).low

pub invariant_of-self-clause-last_blank : goal.invariant_of-self-clause-last_blank
invariant_of-self-clause-last_blank g c =
    let k = (goal.at.invariant_of-self-clause-last_blank g c).After-next_after in
    (found_got c.args.self.now (shown g k) (latest g k) c.args.out.now _ c.next_after.result (looks g k) c.in_ok-next.next c.in_ok-next.ensures).blank

pub returns-clause-step : goal.returns-clause-step
returns-clause-step g c =
    let k = (goal.at.returns-clause-step g c).After-next_after in
    found_step c.args.self.now (shown g k) (latest g k) c.args.out.now _ c.next_after.result (looks g k) _ c.in_ok-next.next c.copy_from_slice.new.self
    c.in_ok-next.ensures refl refl refl refl refl c.copy_from_slice.ensures.after
