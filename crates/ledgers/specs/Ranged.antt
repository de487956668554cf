-- Sizes and strikes that a plan can have. Assumes nothing.
use Rattle.std.specs.Prelude.{◌≡◌, ℕ, ◌≤◌, false}
use Rattle.graphs.specs.Rows.{Pairs}

-- 1 to 24 units, 1 to 64 bays, and strikes only of these
pub record Ranged (m n : ℕ) (s : Pairs) : Type 0 where
  pub some_units : 1 ≤ m
  pub few_units : m ≤ 24
  pub some_bays : 1 ≤ n
  pub few_bays : n ≤ 64
  pub units : (u b : ℕ) → m ≤ u → s u b ≡ false
  pub bays : (u b : ℕ) → n ≤ b → s u b ≡ false
