-- The walk that a search takes over units and bays, and the tries that it makes. Assumes nothing.
use Rattle.std.specs.Prelude.{◌≡◌, ℕ, zero, suc, ◌+◌, ◌^◌, Bool, true, false, cond, not, ◌&&◌, ◌||◌, List, [], map, length, Some, None, Option, is_some, unwrap_or, ◌==◌, bit_and, nat_lt, slice_index}
use Rattle.std.specs.Int.Count.{count_trailing_zeros}
use Rattle.std.specs.List.{range_with_len}
use Rattle.graphs.specs.Rows.{bit, row_of}
use Rattle.graphs.specs.Graph.{Graph}
use Rattle.placements.specs.Agreement.{agrees}
use Rattle.filters.specs.Filter.{Meaning, empty_count, shaped}
use Rattle.search.specs.declared.Walk.{Walk}

-- what a search is shown
pub record Setting : Type 0 where
  pub arrangement : Graph
  pub room : Graph
  pub strict : Bool
  pub filter : Meaning

-- the same from its parts
abbrev pub setting : Graph → Graph → Bool → Meaning → Setting
setting a r s f = record { arrangement = a; room = r; strict = s; filter = f }

-- what a walk is shown, by what its arrangement, its room and its filter mean
abbrev pub asked : {A R F : Type 0} → (A → Graph) → (R → Graph) → (F → Meaning) → Walk A R F → Setting
asked a r f walk = setting (a walk.problem.now.arrangement.now) (r walk.problem.now.room.now) walk.problem.now.strict (f walk.filter.now)

-- the rows that the filter leaves
abbrev pub filtered : Setting → List ℕ → List ℕ
filtered w rows = w.filter w.arrangement w.room w.strict rows

-- some row is empty
abbrev pub any_empty : List ℕ → Bool
any_empty rows = nat_lt 0 (empty_count rows)

-- unit v's row once unit u has the bay b: u's row is that bay alone, and later rows keep the bays that agree with it
abbrev pub narrowed_row : Graph → Graph → Bool → ℕ → ℕ → List ℕ → ℕ → ℕ
narrowed_row a r s u b rows v =
    cond (nat_lt v u) (slice_index rows v) (cond (v == u) (2 ^ b) (bit_and (slice_index rows v) (row_of r.count (λ c. agrees a r s u b v c))))

-- all rows, each so narrowed
abbrev pub narrowed : Graph → Graph → Bool → ℕ → ℕ → List ℕ → List ℕ
narrowed a r s u b rows = map (narrowed_row a r s u b rows) (range_with_len 0 (length rows))

-- the rows that one try leaves: unit u takes the bay b, then the filter is applied
abbrev pub after_try : Setting → ℕ → ℕ → List ℕ → List ℕ
after_try w u b rows = filtered w (narrowed w.arrangement w.room w.strict u b rows)

-- The bay b is tried for a unit with this row: the row holds it and, while all earlier bays equal the last answer's (tied), it is
-- not below that answer's bay for the unit, nor equal to it at the last unit.
abbrev pub offered : ℕ → Bool → ℕ → Bool → ℕ → Bool
offered row tied bound final b = bit row b && not (tied && (nat_lt b bound || b == bound && final))

-- the placement found, or none, and the tries made
pub record Outcome : Type 0 where
  pub found : Option (List ℕ)
  pub tries : ℕ

-- nothing was found in n tries
abbrev pub nothing : ℕ → Outcome
nothing n = record { found = None; tries = n }

-- one try more before o
abbrev pub counted : Outcome → Outcome
counted o = record { found = o.found; tries = 1 + o.tries }

-- what was found in n tries, or else what `rest` finds, with the tries of both
abbrev pub or_else : Option (List ℕ) → ℕ → Outcome → Outcome
or_else (Some w) n rest = record { found = Some w; tries = n }
or_else None n rest = record { found = rest.found; tries = n + rest.tries }

-- the bays from b upward, `left` of them: those offered are tried until one leads to a placement
unfoldable pub scan : (ℕ → Bool) → (ℕ → Outcome) → ℕ → ℕ → Outcome
scan offer here b zero = nothing 0
scan offer here b (suc left) =
    let rest = scan offer here (suc b) left in
    elim (offer b) [ true ↦ (let o = here b in or_else o.found o.tries rest) | false ↦ rest ]

-- a try that leaves these rows fails where one is empty, and else the walk goes on
abbrev pub tried : (List ℕ → Outcome) → List ℕ → Outcome
tried deeper next = let o = counted (deeper next) in elim (any_empty next) [ true ↦ nothing 1 | false ↦ o ]

-- each row's lowest bay
abbrev pub chosen : List ℕ → List ℕ
chosen rows = map (count_trailing_zeros 64) rows

-- The units from u upward, `later` of them, with the last answer beside; tied: all earlier bays equal that answer's.
unfoldable pub settle : Setting → List ℕ → ℕ → Bool → ℕ → List ℕ → Outcome
settle w last zero tied u rows = record { found = Some (chosen rows); tries = 0 }
settle w last (suc later) tied u rows =
    scan
    (offered (slice_index rows u) tied (slice_index last u) (later == 0))
    (λ b. tried (settle w last later (tied && b == slice_index last u) (suc u)) (after_try w u b rows))
    0 w.room.count

-- the same with a last answer only while all earlier bays equal its bays
abbrev pub settle_after : Setting → Option (List ℕ) → ℕ → ℕ → List ℕ → Outcome
settle_after w last later u rows = settle w (unwrap_or last []) later (is_some last) u rows

-- The whole search within the rows: the filter is applied first. Tied: the walk goes on after the last answer.
unfoldable pub walk_from : Setting → List ℕ → Bool → List ℕ → Outcome
walk_from w last tied rows =
    let start = filtered w rows in
    let o = settle w last w.arrangement.count tied 0 start in
    elim (any_empty start) [ true ↦ nothing 0 | false ↦ o ]

-- the same from the start, or after a last answer
abbrev pub walk : Setting → Option (List ℕ) → List ℕ → Outcome
walk w (Some last) rows = walk_from w last true rows
walk w None rows = walk_from w [] false rows

-- the rows are what the filter leaves of some rows of the right shape
pub record LeftBy (w : Setting) (rows : List ℕ) : Type 0 where
  pub before : List ℕ
  pub shape : shaped w.arrangement w.room before ≡ true
  pub is : rows ≡ filtered w before
