use Rattle.filters.proofs.Kept.{Thinned}
use Rattle.degree.specs.Degree.{degree_test}
use Rattle.degree.proofs.thin.thin_by_degree.Given as goal

abbrev pub invariant-loop-u : goal.invariant-loop-u
invariant-loop-u g l = Thinned (degree_test (g.A.Source.graph l.problem.arrangement.now) (g.R.Source.graph l.problem.room.now) l.problem.strict) l.initial.rows l.u l.rows l.taken
