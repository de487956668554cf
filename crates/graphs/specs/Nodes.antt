-- The nodes of a row as a list. Assumes nothing.
use Rattle.std.specs.Prelude.{ℕ, List, filter}
use Rattle.std.specs.List.{range_with_len}
use Rattle.graphs.specs.Rows.{bit}

-- those of the 64 nodes that the row holds, lowest first
unfoldable pub nodes_of : ℕ → List ℕ
nodes_of row = filter (bit row) (range_with_len 0 64)
