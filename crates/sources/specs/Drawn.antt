-- The rows of a wall's or a table's nodes, written out. Assumes nothing.
use Rattle.std.specs.Prelude.{◌≡◌, ℕ, ◌*◌, List, slice_index}
use Rattle.graphs.specs.Rows.{row_of}
use Rattle.graphs.specs.WallGrid.{wall_joined}

-- row a holds the neighbours of node a in a wall of w columns and h levels
abbrev pub Drawn : ℕ → ℕ → List ℕ → Type 0
Drawn w h rows = (a : ℕ) → slice_index rows a ≡ row_of (w * h) (wall_joined w (w * h) a)

-- row a of what is written out is row a of the table, and empty where the table has none
abbrev pub Written : List ℕ → List ℕ → Type 0
Written rows drawn = (a : ℕ) → slice_index drawn a ≡ slice_index rows a
