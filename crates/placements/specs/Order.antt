-- Dictionary order of lists of bays, and the first and all of those with a property. Assumes nothing.
use Rattle.std.specs.Prelude.{◌≡◌, ℕ, ◌<◌, ◌⊎◌, List, [], length, get_or, Some, None, Option, slice_index, slice_index_or}

-- v stands before w: at the first unit where they differ, v has the lower bay
pub record Before (v w : List ℕ) : Type 0 where
  pub unit : ℕ
  pub below : unit < length w
  pub same : (k : ℕ) → k < unit → slice_index v k ≡ slice_index w k
  pub lower : get_or v unit 0 < slice_index w unit

-- w is the first list that P holds of
pub record IsFirst (P : List ℕ → Type 0) (w : List ℕ) : Type 0 where
  pub holds : P w
  pub least : (v : List ℕ) → P v → (w ≡ v) ⊎ Before w v

-- the answer is the first list that P holds of, and none exactly where there is none
abbrev pub Answers : (List ℕ → Type 0) → Option (List ℕ) → Type 0
Answers P (Some w) = IsFirst P w
Answers P None = (w : List ℕ) → P w → ⊥

-- ws are all the lists that P holds of, in dictionary order, each once
pub record Lists (P : List ℕ → Type 0) (ws : List (List ℕ)) : Type 0 where
  pub rising : (i j : ℕ) → i < j → j < length ws → Before (slice_index_or ws i []) (slice_index_or ws j [])
  pub sound : (i : ℕ) → i < length ws → P (slice_index_or ws i [])
  pub complete : (w : List ℕ) → P w → (i : ℕ) × (i < length ws) × (slice_index_or ws i [] ≡ w)
