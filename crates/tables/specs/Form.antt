-- What a table holds. Assumes nothing.
use Rattle.std.specs.Prelude.{ℕ, ◌%◌, ◌^◌, ◌≤◌, min, List, map, length, take}
use Rattle.tables.specs.Shape.{Inside}
use Rattle.tables.specs.declared.table.Table.{Table}

-- a column count and rows; the row count is their number
pub record Form : Type 0 where
  pub columns : ℕ
  pub rows : List ℕ

-- at most 64 rows and 64 columns, and no row with a bit at or past the column count
pub record Lawful (f : Form) : Type 0 where
  pub few_rows : length f.rows ≤ 64
  pub few_columns : f.columns ≤ 64
  pub inside : Inside f.columns f.rows

-- what the type holds: as many rows as its count says
abbrev pub view : Table → Form
view t = record { columns = t.columns; rows = take t.count t.bits }

-- what is made of rows: the first 64 of them, without their bits at or past the columns, of which there are at most 64
abbrev pub form_of : (columns : ℕ) → List ℕ → Form
form_of columns rows =
    record { columns = min columns 64; rows = map (λ row. row % 2 ^ min columns 64) (take 64 rows) }
