-- Rows that lie within a table's bounds. Assumes nothing.
use Rattle.std.specs.Prelude.{◌≡◌, ℕ, ◌^◌, ◌<◌, ◌≤◌, List, slice_index}

-- no row has a bit at or past the column count
abbrev pub Inside : ℕ → List ℕ → Type 0
Inside columns rows = (k : ℕ) → slice_index rows k < 2 ^ columns

-- the rows at and past the row count are zero
abbrev pub Blank : ℕ → List ℕ → Type 0
Blank count rows = (k : ℕ) → count ≤ k → slice_index rows k ≡ 0
