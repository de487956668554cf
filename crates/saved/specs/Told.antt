-- What the faults of saved plans tell: reason, layer and place. Assumes nothing.
use Rattle.refusals.specs.declared.Reason.TheVariants as R
use Rattle.refusals.specs.declared.Layer.TheVariants as L
use Rattle.refusals.specs.declared.Told.{Told}
use Rattle.refusals.specs.Numbers.{told}
use Rattle.tables.specs.Told.{table_told}
use Rattle.saved.specs.declared.fault.PlanFault.{PlanFault}
use Rattle.saved.specs.declared.fault.PlanFault.TheVariants as P

-- found by the layer of plans; a table's fault inside it tells what it told
abbrev pub plan_told : PlanFault → Told
plan_told (P.Table e) = table_told e
plan_told (P.Ended place) = told R.Ended L.Plan place
plan_told (P.Form place) = told R.Unknown L.Plan place
plan_told (P.Sizes place) = told R.Sizes L.Plan place
plan_told (P.Left place) = told R.BytesLeft L.Plan place
