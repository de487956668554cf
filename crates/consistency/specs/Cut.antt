-- What one step of the sweep does to the rows of some units. Assumes nothing.
use Rattle.std.specs.Prelude.{◌≡◌, ℕ, ◌<◌, true, false, List, Option, MatchOption, length, slice_index, slice_index_or}
use Rattle.graphs.specs.Rows.{bit, pairs}
use Rattle.filters.specs.Filter.{Inside, pair_count}

-- one of the rows is empty
pub record SomeEmpty (rows : List ℕ) : Type 0 where
  pub unit : ℕ
  pub below : unit < length rows
  pub empty : slice_index_or rows unit 0 ≡ 0

-- all bays outside `keep` are gone from the rows of the units, and `changed` names the units whose rows changed
pub record CutWhole (units keep : ℕ) (before after : List ℕ) (changed : ℕ) : Type 0 where
  pub cuts : (u b : ℕ) → bit units u ≡ true → pairs after u b ≡ true → bit keep b ≡ true
  pub same : (u : ℕ) → bit changed u ≡ false → slice_index after u ≡ slice_index before u
  pub only : (u : ℕ) → bit changed u ≡ true → bit units u ≡ true
  pub still : pair_count after ≡ pair_count before → changed ≡ 0

-- From the rows of the units only bays outside `keep` were taken away: all of them, and the answer names the units whose rows
-- changed; or some of them, and nothing is answered, where a row became empty.
pub record CutTo (units keep : ℕ) (before after : List ℕ) (cut : Option ℕ) : Type 0 where
  pub inside : Inside after before
  pub keeps : (u b : ℕ) → pairs before u b ≡ true → (bit units u ≡ true → bit keep b ≡ true) → pairs after u b ≡ true
  pub cases : MatchOption cut (SomeEmpty after) (CutWhole units keep before after)
