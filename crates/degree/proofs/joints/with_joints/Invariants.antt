use Rattle.degree.specs.Degree.{degree_within, all_nodes}
use Rattle.degree.specs.Degrees.{Sorted}
use Rattle.degree.proofs.joints.with_joints.Given as goal

abbrev pub invariant-loop-b : goal.invariant-loop-b
invariant-loop-b g l = Sorted (degree_within (g.S.Source.graph l.source) all_nodes) l.b l.rows
