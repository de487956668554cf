use Rattle.tables.proofs.Putting.{Putting}
use Rattle.tables.proofs.write.put_rows.Given as goal

abbrev pub invariant-loop-row : goal.invariant-loop-row
invariant-loop-row l = Putting l.initial.out l.at l.rows l.row-index l.next l.out
