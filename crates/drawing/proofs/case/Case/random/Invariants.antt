use Rattle.std.proofs.Common.{◌^◌, ◌<◌, All}
use Rattle.drawing.proofs.case.Case.random.Given as goal

abbrev pub invariant-loop-row : goal.invariant-loop-row
invariant-loop-row l = All (λ row. row < 2 ^ l.fn.bays.count) l.row-items
