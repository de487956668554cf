use Rattle.plans.proofs.Steps.{new_fresh}
use Rattle.plans.proofs.OverRuns.{law}
use Rattle.plans.proofs.plan.Plan.new.Goals as goal

pub returns : goal.returns
returns c = record { fresh = new_fresh _ c.started.ensures; law = law }
