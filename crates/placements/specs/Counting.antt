-- How many numbers pass a test, and the degree of a node. Assumes nothing.
use Rattle.std.specs.Prelude.{ℕ, zero, suc, ◌+◌, Bool, cond}
use Rattle.graphs.specs.Graph.{Graph}

-- how many numbers below n pass
unfoldable pub count_below : ℕ → (ℕ → Bool) → ℕ
count_below zero p = 0
count_below (suc n) p = count_below n p + cond (p n) 1 0

-- how many nodes the node is joined to
abbrev pub degree : Graph → ℕ → ℕ
degree g a = count_below g.count (g.joined a)
