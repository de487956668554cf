-- The degree of a node within a set, and the filter by degrees. Assumes nothing.
use Rattle.std.specs.Prelude.{◌≡◌, ℕ, ◌-◌, ◌<◌, Bool, true, not, ◌&&◌, ◌||◌, List, nat_le, nat_lt, slice_index}
use Rattle.graphs.specs.Rows.{row_of}
use Rattle.graphs.specs.Graph.{Graph}
use Rattle.placements.specs.Counting.{count_below}
use Rattle.filters.specs.Filter.{Meaning}
use Rattle.filters.specs.Kept.{PairTest, kept_rows}

-- how many nodes of the set the node a is joined to: the joints that start at a
abbrev pub degree_within : Graph → (ℕ → Bool) → ℕ → ℕ
degree_within g set a = count_below g.count (λ b. g.joined a b && set b)

-- the set of all nodes
abbrev pub all_nodes : ℕ → Bool
all_nodes b = true

-- for each k up to 64, the row of the nodes with fewer than k joints
abbrev pub ByDegree : Graph → List ℕ → Type 0
ByDegree g rows = (k : ℕ) → k < 65 → slice_index rows k ≡ row_of g.count (λ b. nat_lt (degree_within g all_nodes b) k)

-- The bay b has joints enough for the unit u, within all bays and all units: at least as many as u. In strict use it also has
-- enough bays that it is not joined to: n - 1 less its joints is at least m - 1 less those of u.
abbrev pub degree_test : PairTest
degree_test a r strict u b =
    nat_le (degree_within a all_nodes u) (degree_within r all_nodes b)
    && (not strict || nat_le (a.count - 1 - degree_within a all_nodes u) (r.count - 1 - degree_within r all_nodes b))

-- the filter keeps the pairs that pass, and leaves rows of another shape alone
abbrev pub degree_meaning : Meaning
degree_meaning = kept_rows degree_test
