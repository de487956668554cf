-- The graph of a joint table: one row a node. Assumes nothing.
use Rattle.std.specs.Prelude.{◌≡◌, ℕ, ◌^◌, ◌<◌, ◌≤◌, false, List, length, slice_index, slice_index_or}
use Rattle.graphs.specs.Rows.{bit}
use Rattle.graphs.specs.Graph.{Graph}

-- as many nodes as rows; a is joined to b where row a holds b
abbrev pub table_graph : List ℕ → Graph
table_graph rows = record { count = length rows; joined = λ a b. bit (slice_index rows a) b }

-- row a holds no node at or past n, nor a itself, and b only where row b holds a
pub record RowLawful (rows : List ℕ) (n a : ℕ) : Type 0 where
  pub inside : slice_index_or rows a 0 < 2 ^ n
  pub irreflexive : bit (slice_index rows a) a ≡ false
  pub symmetric : (b : ℕ) → b < n → bit (slice_index rows a) b ≡ bit (slice_index rows b) a

-- what the look-over of a table accepts: square, 1 to 64 nodes, each row lawful
pub record TableLawful (rows : List ℕ) (columns : ℕ) : Type 0 where
  pub square : length rows ≡ columns
  pub some : 1 ≤ columns
  pub few : columns ≤ 64
  pub each : (a : ℕ) → a < columns → RowLawful rows columns a

-- one node without joints, which stands for what a look-over declines
abbrev pub lone_node : Graph
lone_node = record { count = 1; joined = λ a b. false }
