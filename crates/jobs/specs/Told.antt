-- What the faults of jobs tell: reason, layer and place. Assumes nothing.
use Rattle.refusals.specs.declared.Reason.TheVariants as R
use Rattle.refusals.specs.declared.Layer.TheVariants as L
use Rattle.refusals.specs.declared.Told.{Told}
use Rattle.refusals.specs.Numbers.{told}
use Rattle.sources.specs.Faults.{joint_told}
use Rattle.tables.specs.Told.{table_told}
use Rattle.saved.specs.Told.{plan_told}
use Rattle.jobs.specs.declared.fault.JobFault.{JobFault}
use Rattle.jobs.specs.declared.fault.JobFault.TheVariants as J

-- found by the layer of jobs; the fault of a table, a plan or a source inside it tells what it told
abbrev pub job_told : JobFault → Told
job_told (J.Table e) = table_told e
job_told (J.Plan e) = plan_told e
job_told (J.Joints e) = joint_told e
job_told (J.Ended place) = told R.Ended L.Job place
job_told (J.Unknown place) = told R.Unknown L.Job place
job_told (J.Unequal place) = told R.OtherCount L.Job place
