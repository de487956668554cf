use Rattle.std.proofs.Common.{◌≤◌, length, None, refl, rules}
use Rattle.search.specs.Walk.{Setting, setting}
use Rattle.ledgers.specs.Calls.{seek}
use Rattle.ledgers.specs.Wanted.{Fair}
use Rattle.plans.proofs.Searching.{Looks, seek_looks, open_is, shaped_well, found_got, found_step, lost_step}
use Rattle.plans.proofs.plan.Plan.seek.Given.{Over}
use Rattle.plans.proofs.plan.Plan.seek.Goals.{After-first}
use Rattle.plans.proofs.plan.Plan.seek.Goals as goal

abbrev shown : (g : Over) → After-first g → Setting
shown g c = setting (g.A.Source.graph c.args.problem.now.arrangement.now) (g.R.Source.graph c.args.problem.now.room.now) c.args.problem.now.strict (g.F.Filter.left c.args.filter.now)

fair : (g : Over) (c : After-first g) → Fair (shown g c)
fair g c = record { arrangement = g.A.Source.sound c.args.problem.now.arrangement.now; room = g.R.Source.sound c.args.problem.now.room.now; filter = g.met.F.Filter.lawful c.args.filter.now }

looks : (g : Over) (c : After-first g) → Looks c.args.self.now (shown g c) None c.args.out.now (seek (shown g c) c.args.out.now) c.first.result
looks g c =
    let long : c.args.self.now.units ≤ length c.without-rows.result = search rules in
    let all = open_is c.args.self.now c.in_ok-fitted.fitted.now c.without-rows.result c.in_ok-fitted.ensures.rows c.without-rows.ensures in
    seek_looks c.args.self.now (shown g c) c.without-rows.result c.args.out.now c.first.result (fair g c)
    c.in_ok-fitted.ensures.tests all long c.if-out-units.false c.first.ensures.theorem c.first.ensures.answer

pub outcome-requires : goal.outcome-requires
outcome-requires g c = shaped_well c.args.self.now (shown g c) None c.args.out.now _ c.first.result (looks g c)

pub returns-in_err-find : goal.returns-in_err-find
returns-in_err-find g c =
    let k = (goal.at.returns-in_err-find g c).After-first in
    record {
      step = lost_step c.args.self.now (shown g k) None c.args.out.now _ c.first.result (looks g k) _ c.from_residual-in_err-find.result c.in_err-find.ensures c.from_residual-in_err-find.ensures.1;
      shows = fair g k;
    }

pub invariant_of-self-clause-last_low : goal.invariant_of-self-clause-last_low
invariant_of-self-clause-last_low g c =
    let k = (goal.at.invariant_of-self-clause-last_low g c).After-first in
    (found_got c.args.self.now (shown g k) None c.args.out.now _ c.first.result (looks g k) c.in_ok-find.find c.in_ok-find.ensures).low

pub invariant_of-self-clause-last_blank : goal.invariant_of-self-clause-last_blank
invariant_of-self-clause-last_blank g c =
    let k = (goal.at.invariant_of-self-clause-last_blank g c).After-first in
    (found_got c.args.self.now (shown g k) None c.args.out.now _ c.first.result (looks g k) c.in_ok-find.find c.in_ok-find.ensures).blank

pub returns-clause-step : goal.returns-clause-step
returns-clause-step g c =
    let k = (goal.at.returns-clause-step g c).After-first in
    found_step c.args.self.now (shown g k) None c.args.out.now _ c.first.result (looks g k) _ c.in_ok-find.find c.copy_from_slice.new.self
    c.in_ok-find.ensures refl refl refl refl refl c.copy_from_slice.ensures.after
