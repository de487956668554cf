use Rattle.search.specs.Walk.{narrowed_row}
use Rattle.search.proofs.Narrowing.{Narrows}
use Rattle.search.proofs.Walk.narrow.Given as goal

abbrev pub invariant-loop-v : goal.invariant-loop-v
invariant-loop-v g l =
    Narrows (narrowed_row (g.A.Source.graph l.self.problem.now.arrangement.now) (g.R.Source.graph l.self.problem.now.room.now) l.self.problem.now.strict l.u l.b l.rows) l.rows l.v l.next l.changed
