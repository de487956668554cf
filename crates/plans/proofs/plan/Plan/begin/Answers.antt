use Rattle.plans.proofs.Steps.{begin_step}
use Rattle.plans.proofs.plan.Plan.begin.Goals as goal

pub returns : goal.returns
returns c = begin_step c.args.self.now _ c.args.units c.args.bays c.if-units-lt1.false c.if-units-gt24.false c.if-bays-lt1.false c.if-bays-gt64.false c.started.ensures
