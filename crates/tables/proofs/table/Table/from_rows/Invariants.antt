use Rattle.tables.proofs.Filling.{Filling}
use Rattle.tables.proofs.table.Table.from_rows.Given as goal

abbrev pub invariant-loop-k : goal.invariant-loop-k
invariant-loop-k l = Filling l.width l.rows l.k l.bits
