use Rattle.jobs.proofs.Heights.{Filled}
use Rattle.jobs.proofs.read.read_heights.Given as goal

abbrev pub invariant-loop-k : goal.invariant-loop-k
invariant-loop-k l = Filled l.pairs l.k l.heights
