use Rattle.std.proofs.Common.{◌≡◌, ◌*◌, min}
use Rattle.drawing.proofs.graph.Graph.wall.Given as goal

abbrev pub invariant-loop-a : goal.invariant-loop-a
invariant-loop-a l = l.graph.count ≡ min (l.fn.columns * l.fn.levels) 64
