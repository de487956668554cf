use Rattle.std.proofs.Common.{◌+◌, ◌*◌}
use Rattle.filters.specs.Filter.{pair_count}
use Rattle.consistency.proofs.Turns.{Turned, Sweeping}
use Rattle.consistency.proofs.settle.Given as goal

abbrev pub invariant-loop-class : goal.invariant-loop-class
invariant-loop-class g l =
    Turned (g.A.Source.graph l.problem.arrangement.now) (g.R.Source.graph l.problem.room.now) l.problem.strict l.v
    l.initial.rows l.initial.changed l.rows l.changed l.class

abbrev pub invariant-sweep : goal.invariant-sweep
invariant-sweep g l =
    Sweeping (g.A.Source.graph l.problem.arrangement.now) (g.R.Source.graph l.problem.room.now) l.problem.strict l.first l.initial.rows l.rows l.changed

abbrev pub decreases-sweep : goal.decreases-sweep
decreases-sweep g l = 18446744073709551616 * pair_count l.rows + l.changed
