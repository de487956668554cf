use Rattle.std.proofs.Common.{◌≡◌, min}
use Rattle.drawing.proofs.graph.Graph.random.Given as goal

abbrev pub invariant-loop-b : goal.invariant-loop-b
invariant-loop-b l = l.graph.count ≡ min l.fn.count 64

abbrev pub invariant-loop-a : goal.invariant-loop-a
invariant-loop-a l = l.graph.count ≡ min l.fn.count 64
