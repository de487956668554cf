-- What a graph of joints is. Assumes nothing.
use Rattle.std.specs.Prelude.{◌≡◌, ℕ, ◌≤◌, Bool, false}

-- a count of nodes, numbered from 0, and which node is joined to which
pub record Graph : Type 0 where
  pub count : ℕ
  pub joined : ℕ → ℕ → Bool

-- the facts that filters, search and plans rest on: 1 to 64 nodes, none joined to itself, and a number at or past the
-- count joined to nothing and nothing to it
pub record Sound (g : Graph) : Type 0 where
  pub some : 1 ≤ g.count
  pub few : g.count ≤ 64
  pub irreflexive : (a : ℕ) → g.joined a a ≡ false
  pub outside_from : (a b : ℕ) → g.count ≤ a → g.joined a b ≡ false
  pub outside_to : (a b : ℕ) → g.count ≤ b → g.joined a b ≡ false

-- joints hold both ways
pub record Symmetric (g : Graph) : Type 0 where
  pub both : (a b : ℕ) → g.joined a b ≡ g.joined b a
