-- What a filter of the bays is, and what each must show. Assumes nothing.
use Rattle.std.specs.Prelude.{◌≡◌, ℕ, ◌+◌, ◌^◌, Bool, true, false, cond, ◌&&◌, List, [], ◌∷◌, length, ◌==◌, count_ones, nat_le, nat_lt, slice_index}
use Rattle.std.specs.List.{list_all}
use Rattle.graphs.specs.Rows.{bit, pairs}
use Rattle.graphs.specs.Graph.{Graph, Sound}
use Rattle.placements.specs.Placement.{Placement, Within}
use Rattle.filters.specs.declared.Counts.{Counts}

-- no row has a bit at or past n
abbrev pub all_below : ℕ → List ℕ → Bool
all_below n rows = list_all (λ x. nat_lt x (2 ^ n)) rows

-- one row a unit, at most 24 of them, and no bit at or past the count of bays
abbrev pub shaped : Graph → Graph → List ℕ → Bool
shaped a r rows = (length rows == a.count && nat_le a.count 24) && all_below r.count rows

-- how many pairs the rows hold
abbrev pub pair_count : List ℕ → ℕ
pair_count [] = 0
pair_count (x ∷ xs) = count_ones x + pair_count xs

-- how many rows are empty
abbrev pub empty_count : List ℕ → ℕ
empty_count [] = 0
empty_count (x ∷ xs) = cond (x == 0) 1 0 + empty_count xs

-- the meaning of a filter: the rows that it leaves of those shown, by arrangement, room and strictness
abbrev pub Meaning : Type 0
Meaning = Graph → Graph → Bool → List ℕ → List ℕ

-- every pair of the rows xs is one of the rows ys
abbrev pub Inside : List ℕ → List ℕ → Type 0
Inside xs ys = (u b : ℕ) → pairs xs u b ≡ true → pairs ys u b ≡ true

-- What every filter must show: it leaves as many rows, adds no pair, keeps each placement within the shown rows, and leaves rows
-- of another shape alone.
pub record Lawful (f : Meaning) : Type 0 where
  pub as_many : (a r : Graph) (strict : Bool) (rows : List ℕ) → length (f a r strict rows) ≡ length rows
  pub adds_none : (a r : Graph) (strict : Bool) (rows : List ℕ) → Inside (f a r strict rows) rows
  pub keeps :
      (a r : Graph) (strict : Bool) (rows w : List ℕ) → Sound a → Sound r → Placement a r strict w → Within (pairs rows) w
      → Within (pairs (f a r strict rows)) w
  pub leaves : (a r : Graph) (strict : Bool) (rows : List ℕ) → shaped a r rows ≡ false → f a r strict rows ≡ rows

-- what an answer counts: the pairs before are those taken and those left, and the empty rows are those left empty
pub record Counted (before after : List ℕ) (k : Counts) : Type 0 where
  pub taken : pair_count before ≡ k.taken + pair_count after
  pub empty : k.empty ≡ empty_count after

-- the rows were cut from `base`, and only those of the units in the set `changed`
pub record CutFrom (base : List ℕ) (changed : ℕ) (rows : List ℕ) : Type 0 where
  pub as_many : length rows ≡ length base
  pub inside : Inside rows base
  pub same : (u : ℕ) → bit changed u ≡ false → slice_index rows u ≡ slice_index base u

-- What resuming a filter promises: on rows cut, at the changed units only, from rows that it has left before, it leaves what
-- applying it leaves.
abbrev pub Resumes : Meaning → Graph → Graph → Bool → ℕ → List ℕ → List ℕ → Type 0
Resumes f a r strict changed rows left =
    (before : List ℕ) → shaped a r before ≡ true → CutFrom (f a r strict before) changed rows → left ≡ f a r strict rows
