use Rattle.tables.proofs.Putting.{Mapping}
use Rattle.tables.proofs.write.map_of.Given as goal

abbrev pub invariant-loop-k : goal.invariant-loop-k
invariant-loop-k l = Mapping l.rows l.k l.map
