-- Filters by a test on pairs. Assumes nothing.
use Rattle.std.specs.Prelude.{Bool, cond, ◌&&◌}
use Rattle.graphs.specs.Rows.{Pairs, pairs, rows_of}
use Rattle.graphs.specs.Graph.{Graph}
use Rattle.filters.specs.Filter.{Meaning, shaped}

-- which pairs of a unit and a bay pass, by arrangement, room and strictness
abbrev pub PairTest : Type 0
PairTest = Graph → Graph → Bool → Pairs

-- the rows that keep exactly the pairs that pass; rows of another shape are left alone
abbrev pub kept_rows : PairTest → Meaning
kept_rows test a r strict rows =
    cond (shaped a r rows) (rows_of a.count r.count (λ u b. pairs rows u b && test a r strict u b)) rows
