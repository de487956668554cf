use Rattle.std.proofs.Common.{◌^◌, ◌<◌}
use Rattle.drawing.proofs.chance.Chance.row.Given as goal

abbrev pub invariant-loop-b : goal.invariant-loop-b
invariant-loop-b l = l.row < 2 ^ l.b
