use Rattle.sources.proofs.SetBits.{Tested}
use Rattle.sources.proofs.table.look_over_row.Given as goal

abbrev pub invariant-loop-b : goal.invariant-loop-b
invariant-loop-b l = Tested l.rows l.a l.b-iterator.rest
