use Rattle.std.proofs.Common.{arith}
use Rattle.drawing.proofs.Joints.{lawful_rows}
use Rattle.drawing.proofs.graph.Graph.rows.Goals as goal

pub returns-clause-lawful : goal.returns-clause-lawful
returns-clause-lawful k = let graph = k.args.self.now in lawful_rows graph.count graph.rows (omega arith) graph.few graph.inside graph.irreflexive graph.symmetric
