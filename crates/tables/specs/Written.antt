-- The saved form of a table. Assumes nothing.
use Rattle.std.specs.Prelude.{ℕ, ◌+◌, ◌*◌, cond, List, [], ◌∷◌, ◌++◌, length, ◌==◌}
use Rattle.tables.specs.Bytes.{bytes_of}
use Rattle.tables.specs.Form.{Form}

-- bit k says that row k is not zero
unfoldable pub map_of : List ℕ → ℕ
map_of [] = 0
map_of (r ∷ rs) = cond (r == 0) 0 1 + 2 * map_of rs

-- only the rows that are not zero are stored, eight bytes each
unfoldable pub rows_bytes : List ℕ → List ℕ
rows_bytes [] = []
rows_bytes (r ∷ rs) = cond (r == 0) (rows_bytes rs) (bytes_of 8 r ++ rows_bytes rs)

-- the row count, the column count, the map, the stored rows
abbrev pub table_bytes : Form → List ℕ
table_bytes f = length f.rows ∷ (f.columns ∷ (bytes_of 8 (map_of f.rows) ++ rows_bytes f.rows))

-- how many rows are stored
unfoldable pub stored : List ℕ → ℕ
stored [] = 0
stored (r ∷ rs) = cond (r == 0) 0 1 + stored rs
