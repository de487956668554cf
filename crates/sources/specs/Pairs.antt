-- A joint table by its set bits. Assumes nothing.
use Rattle.std.specs.Prelude.{◌≡◌, ℕ, ◌<◌, true, List, length, slice_index}
use Rattle.graphs.specs.Rows.{bit}

-- row a may hold b: b is another node of the table, and its row holds a
pub record PairLawful (rows : List ℕ) (a b : ℕ) : Type 0 where
  pub inside : b < length rows
  pub other : b ≡ a → ⊥
  pub back : bit (slice_index rows b) a ≡ true

-- each node that row a holds it may hold
abbrev pub PairsLawful : List ℕ → ℕ → Type 0
PairsLawful rows a = (b : ℕ) → bit (slice_index rows a) b ≡ true → PairLawful rows a b
