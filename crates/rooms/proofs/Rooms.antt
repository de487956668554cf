-- The definitions give each entry of the table. Assumes nothing.
use Rattle.std.proofs.Common.{refl}
use lib.Count.{count_trailing_zeros, ones}
use Rattle.graphs.specs.Rows.{bit, row_from, rows_of}
use Rattle.placements.specs.Counting.{count_below}
use Rattle.placements.specs.Tests.{each_below, some_below}
use Rattle.placements.specs.Listing.{headed, listing}
use Rattle.search.specs.Walk.{scan, settle, walk_from}
use Rattle.rooms.specs.Table.{TableHolds}

pub table_holds : TableHolds
unfolding count_trailing_zeros ones bit row_from rows_of count_below each_below some_below headed listing scan settle walk_from
table_holds = refl
