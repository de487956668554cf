-- What the searches of a plan look for. Assumes nothing.
use Rattle.std.specs.Prelude.{ℕ, Bool, true, cond, ◌&&◌, List, Some, None, Option, ◌==◌}
use Rattle.graphs.specs.Rows.{Pairs}
use Rattle.graphs.specs.Graph.{Sound}
use Rattle.placements.specs.Placement.{Placement, Within}
use Rattle.placements.specs.Order.{Before}
use Rattle.placements.specs.Tests.{placement_test, within_test, before_test}
use Rattle.filters.specs.Filter.{Lawful}
use Rattle.search.specs.Walk.{Setting}

-- w comes after the last answer, where there is one
abbrev pub After : Option (List ℕ) → List ℕ → Type 0
After None w = Unit {0}
After (Some v) w = Before v w

-- a placement of what is shown, within the pairs, after the last answer where there is one
pub record Wanted (s : Setting) (r : Pairs) (o : Option (List ℕ)) (w : List ℕ) : Type 0 where
  pub placed : Placement s.arrangement s.room s.strict w
  pub within : Within r w
  pub after : After o w

-- the same as a test that computes
abbrev pub after_test : Option (List ℕ) → List ℕ → Bool
after_test None w = true
after_test (Some v) w = before_test v w

abbrev pub wanted : Setting → Pairs → Option (List ℕ) → List ℕ → Bool
wanted s r o w = placement_test s.arrangement s.room s.strict w && (within_test r w && after_test o w)

-- the pairs with the unit u held to the bay b
abbrev pub held_to : Pairs → ℕ → ℕ → Pairs
held_to r u b v c = cond (u == v) (r v c && b == c) (r v c)

-- what is shown is sound and lawful
pub record Fair (s : Setting) : Type 0 where
  pub arrangement : Sound s.arrangement
  pub room : Sound s.room
  pub filter : Lawful s.filter
