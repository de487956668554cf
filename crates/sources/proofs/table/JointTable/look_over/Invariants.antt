use Rattle.std.proofs.Common.{ℕ, ◌<◌}
use Rattle.sources.specs.Pairs.{PairsLawful}
use Rattle.sources.proofs.table.JointTable.look_over.Given as goal

abbrev pub invariant-loop-a : goal.invariant-loop-a
invariant-loop-a l = (k : ℕ) → k < l.a → PairsLawful l.rows k
