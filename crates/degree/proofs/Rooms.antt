-- The worked rooms, by computation. Assumes nothing.
use Rattle.std.proofs.Common.{refl}
use Rattle.graphs.specs.Rows.{bit, row_from, rows_of}
use Rattle.placements.specs.Counting.{count_below}
use Rattle.degree.specs.Worked.{Worked}

pub worked : Worked
unfolding bit row_from rows_of count_below
worked = record { unjoined = refl; middle = refl; spread = refl; spread_strict = refl; short = refl }
