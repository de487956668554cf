-- Arc consistency: which pairs have support, and the greatest rows whose every pair has. Assumes nothing.
use Rattle.std.specs.Prelude.{◌≡◌, ℕ, ◌<◌, Bool, true, false, cond, ◌&&◌, ◌||◌, List, map, length, ◌==◌, ◌≢◌, bit_and, slice_index}
use Rattle.std.specs.List.{range_with_len}
use Rattle.graphs.specs.Rows.{bit, pairs, row_of}
use Rattle.graphs.specs.Graph.{Graph}
use Rattle.placements.specs.Agreement.{agrees_if, agrees}
use Rattle.placements.specs.Tests.{each_below, some_below}
use Rattle.filters.specs.Filter.{Meaning, Inside, shaped}
use Rattle.filters.specs.Composed.{repeat_meaning}

-- what supports (u, b) at the unit v: a bay of v's row that agrees with it
pub record Supporter (a r : Graph) (strict : Bool) (rows : List ℕ) (u b v : ℕ) : Type 0 where
  pub bay : ℕ
  pub held : pairs rows v bay ≡ true
  pub agreeing : agrees a r strict u b v bay ≡ true

-- each pair (u, b) of the rows has a support at the unit v
abbrev pub Arc : Graph → Graph → Bool → List ℕ → ℕ → ℕ → Type 0
Arc a r strict rows u v = (b : ℕ) → pairs rows u b ≡ true → Supporter a r strict rows u b v

-- each pair has a support at every other unit outside the set `changed`
abbrev pub SupportedBut : Graph → Graph → Bool → ℕ → List ℕ → Type 0
SupportedBut a r strict changed rows =
    (u v : ℕ) → u < a.count → v < a.count → (u ≢ v) → bit changed v ≡ false → Arc a r strict rows u v

-- each pair has a support at every other unit
abbrev pub Supported : Graph → Graph → Bool → List ℕ → Type 0
Supported a r strict rows = (u v : ℕ) → u < a.count → v < a.count → (u ≢ v) → Arc a r strict rows u v

-- the greatest supported rows inside the shown ones
pub record Greatest (a r : Graph) (strict : Bool) (shown rows : List ℕ) : Type 0 where
  pub as_many : length rows ≡ length shown
  pub inside : Inside rows shown
  pub supported : Supported a r strict rows
  pub most : (other : List ℕ) → Inside other shown → Supported a r strict other → Inside other rows

-- where one row is empty, all are
abbrev pub AllOrNone : List ℕ → Type 0
AllOrNone rows = (u v : ℕ) → u < length rows → slice_index rows u ≡ 0 → slice_index rows v ≡ 0

-- some bay of the row, below n, passes
abbrev pub any_of : ℕ → ℕ → (ℕ → Bool) → Bool
any_of row n p = some_below n (λ c. bit row c && p c)

-- the bays of the row that agree with some bay of the other row: `out` says whether the first unit is joined to the second,
-- `back` whether the second is joined to the first
abbrev pub revised : Graph → Bool → Bool → Bool → ℕ → ℕ → ℕ
revised r out back strict row other =
    row_of r.count (λ b. bit row b && any_of other r.count (agrees_if r out back strict b))

-- each of the first m units other than u has in its row a bay that agrees with (u, b)
abbrev pub supported_by : Graph → Graph → Bool → List ℕ → ℕ → ℕ → ℕ → Bool
supported_by a r strict rows u b m =
    each_below m (λ v. (u == v) || any_of (slice_index rows v) r.count (agrees a r strict u b v))

-- the bays of u's row that have a support at every other unit
abbrev pub swept_row : Graph → Graph → Bool → List ℕ → ℕ → ℕ
swept_row a r strict rows u = bit_and (slice_index rows u) (row_of r.count (λ b. supported_by a r strict rows u b a.count))

-- the pairs that have a support at every other unit
abbrev pub swept : Graph → Graph → Bool → List ℕ → List ℕ
swept a r strict rows = map (swept_row a r strict rows) (range_with_len 0 (length rows))

-- one sweep; rows of another shape are left alone
abbrev pub sweep_meaning : Meaning
sweep_meaning a r strict rows = cond (shaped a r rows) (swept a r strict rows) rows

-- what arc consistency leaves: sweeps until nothing is taken away
abbrev pub support_meaning : Meaning
support_meaning = repeat_meaning sweep_meaning

-- that is the greatest supported rows inside those shown
abbrev pub SupportGreatest : Type 0
SupportGreatest =
    (a r : Graph) (strict : Bool) (rows : List ℕ) → shaped a r rows ≡ true
    → Greatest a r strict rows (support_meaning a r strict rows)
