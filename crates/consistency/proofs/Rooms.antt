-- Small rooms worked through. Assumes nothing.
use Rattle.std.proofs.Common.{refl}
use lib.Count.{ones}
use Rattle.graphs.specs.Rows.{bit, row_from}
use Rattle.placements.specs.Tests.{each_below, some_below}
use Rattle.consistency.specs.Rooms.{RoomsHold}

pub rooms_hold : RoomsHold
unfolding bit row_from ones each_below some_below
rooms_hold = refl
