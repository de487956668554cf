use Rattle.filters.specs.Filter.{pair_count}
use Rattle.filters.specs.Laws.{Again}
use Rattle.filters.proofs.turns.repeat.Given as goal

abbrev pub invariant-turn : goal.invariant-turn
invariant-turn g l = Again (g.F.Filter.left l.filter) (g.A.Source.graph l.problem.arrangement.now) (g.R.Source.graph l.problem.room.now) l.problem.strict l.initial.rows l.rows l.taken

abbrev pub decreases-turn : goal.decreases-turn
decreases-turn g l = pair_count l.rows
