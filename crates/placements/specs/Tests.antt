-- Placements, rows and dictionary order as tests that compute. Assumes nothing.
use Rattle.std.specs.Prelude.{ℕ, zero, suc, Bool, true, false, ◌&&◌, ◌||◌, List, length, ◌==◌, nat_eq, nat_lt, slice_index}
use Rattle.graphs.specs.Graph.{Graph}
use Rattle.graphs.specs.Rows.{Pairs}
use Rattle.placements.specs.Agreement.{agrees}

-- each number below n passes
unfoldable pub each_below : ℕ → (ℕ → Bool) → Bool
each_below zero p = true
each_below (suc n) p = p n && each_below n p

-- some number below n passes
unfoldable pub some_below : ℕ → (ℕ → Bool) → Bool
some_below zero p = false
some_below (suc n) p = p n || some_below n p

-- u and v are one unit, or their bays agree
abbrev pub pair_test : Graph → Graph → Bool → List ℕ → ℕ → ℕ → Bool
pair_test a r strict w u v = u == v || agrees a r strict u (slice_index w u) v (slice_index w v)

-- the bay of the unit u is in the room, and agrees with the bay of each other unit
abbrev pub unit_test : Graph → Graph → Bool → List ℕ → ℕ → Bool
unit_test a r strict w u = nat_lt (slice_index w u) r.count && each_below a.count (pair_test a r strict w u)

-- w is a placement
abbrev pub placement_test : Graph → Graph → Bool → List ℕ → Bool
placement_test a r strict w = length w == a.count && each_below a.count (unit_test a r strict w)

-- every unit of w is on a bay that the pairs allow it
abbrev pub within_test : Pairs → List ℕ → Bool
within_test r w = each_below (length w) (λ u. r u (slice_index w u))

-- v stands before w
abbrev pub before_test : List ℕ → List ℕ → Bool
before_test v w =
    some_below (length w) (λ u. nat_lt (slice_index v u) (slice_index w u) && each_below u (λ k. nat_eq (slice_index v k) (slice_index w k)))
