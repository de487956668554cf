-- What the faults of tables tell: reason, layer and place. Assumes nothing.
use Rattle.refusals.specs.declared.Reason.{Reason}
use Rattle.refusals.specs.declared.Reason.TheVariants as R
use Rattle.refusals.specs.declared.Layer.TheVariants as L
use Rattle.refusals.specs.declared.Told.{Told}
use Rattle.refusals.specs.Numbers.{told}
use Rattle.tables.specs.declared.fault.TableCause.{TableCause}
use Rattle.tables.specs.declared.fault.TableCause.TheVariants as C
use Rattle.tables.specs.declared.fault.TableFault.{TableFault}
use Rattle.tables.specs.declared.fault.SaveFault.{SaveFault}
use Rattle.tables.specs.declared.fault.SaveFault.TheVariants as S

abbrev pub table_reason : TableCause → Reason
table_reason C.Ended = R.Ended
table_reason C.TooMany = R.TooMany
table_reason C.MapBit = R.MapBit
table_reason C.ZeroRow = R.ZeroRow
table_reason C.RowBit = R.RowBit

-- found by the layer of tables
abbrev pub table_told : TableFault → Told
table_told e = told (table_reason e.cause) L.Table e.place

abbrev pub save_reason : SaveFault → Reason
save_reason S.Short = R.NoRoom
