use Rattle.consistency.proofs.Lowest.{Apart}
use Rattle.consistency.proofs.revise.Given as goal

abbrev pub invariant-loop-c : goal.invariant-loop-c
invariant-loop-c g l = Apart (g.R.Source.graph l.problem.room.now) l.joined.out l.joined.back l.problem.strict l.row l.other l.c-iterator.rest l.found
