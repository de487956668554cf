-- Rows as sets of bays, and tables of rows as sets of pairs. Assumes nothing.
use Rattle.std.specs.Prelude.{ℕ, zero, suc, ◌+◌, ◌*◌, ◌/◌, ◌%◌, ◌^◌, Bool, cond, List, [], ◌∷◌, ◌==◌, slice_index}

-- the row holds the bay b: bit b of the number, from the lowest
unfoldable pub bit : ℕ → ℕ → Bool
bit row b = row / 2 ^ b % 2 == 1

-- the row of those of the next `left` bays from b on that pass the test, b standing at the lowest bit
unfoldable pub row_from : ℕ → (ℕ → Bool) → ℕ → ℕ
row_from b p zero = 0
row_from b p (suc left) = cond (p b) 1 0 + 2 * row_from (suc b) p left

-- the row of the bays below n that pass the test
abbrev pub row_of : ℕ → (ℕ → Bool) → ℕ
row_of n p = row_from 0 p n

-- a set of pairs of a unit and a bay
abbrev pub Pairs : Type 0
Pairs = ℕ → ℕ → Bool

-- the pairs that a table of rows holds, one row a unit
abbrev pub pairs : List ℕ → Pairs
pairs rows u b = bit (slice_index rows u) b

-- the rows of the first m units, each with the bays below n
unfoldable pub rows_of : ℕ → ℕ → Pairs → List ℕ
rows_of zero n r = []
rows_of (suc m) n r = row_of n (r 0) ∷ rows_of m n (λ u. r (suc u))
