-- What holds of the fit and of the last answer in every plan. Assumes nothing.
use Rattle.std.specs.Prelude.{ℕ, ◌<◌, List, [], Some, None, Option, slice_index}

-- the fitted rows, and the bays of the last answer; none are the empty list
abbrev pub numbers_in : Option (List ℕ) → List ℕ
numbers_in None = []
numbers_in (Some w) = w

-- every number is below the number of bays
abbrev pub Low : ℕ → List ℕ → Type 0
Low bays w = (u : ℕ) → slice_index w u < bays
