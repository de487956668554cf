use Rattle.degree.specs.Degree.{degree_within, all_nodes}
use Rattle.degree.specs.Degrees.{Summed}
use Rattle.degree.proofs.joints.with_fewer.Given as goal

abbrev pub invariant-loop-row : goal.invariant-loop-row
invariant-loop-row g l = Summed (g.S.Source.graph l.source).count (degree_within (g.S.Source.graph l.source) all_nodes) l.row-index l.row-items l.fewer
