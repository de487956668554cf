use Rattle.std.proofs.Common.{arith}
use Rattle.drawing.proofs.Rows.{row_more, row_less}
use Rattle.drawing.proofs.chance.Chance.row.Goals as goal
use Rattle.drawing.proofs.chance.Chance.row.Goals.{then-percent, else-percent}

pub loop-b-preserved : goal.loop-b-preserved
loop-b-preserved c = elim c.if-percent.branch [
  | then-percent w ↦ rw w.row-is (row_more c.loop-b.row c.loop-b.b (omega arith) c.loop-b.invariant)
  | else-percent w ↦ rw w.row-is (row_less c.loop-b.row c.loop-b.b c.loop-b.invariant)
]
