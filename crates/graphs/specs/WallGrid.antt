-- The graph of a wall of w columns and h levels. Assumes nothing.
use Rattle.std.specs.Prelude.{ℕ, ◌+◌, ◌*◌, ◌/◌, ◌≤◌, Bool, ◌&&◌, ◌||◌, ◌==◌, nat_lt}
use Rattle.graphs.specs.Graph.{Graph}

-- of the n nodes, level * w + column each, two are joined where they are neighbours on one level, or one stands directly
-- above the other
abbrev pub wall_joined : ℕ → ℕ → ℕ → ℕ → Bool
wall_joined w n a b =
    (nat_lt a n && nat_lt b n) &&
    ((a / w == b / w && (a + 1 == b || b + 1 == a)) || (a + w == b || b + w == a))

abbrev pub wall_graph : ℕ → ℕ → Graph
wall_graph w h = record { count = w * h; joined = wall_joined w (w * h) }

-- what the look-over of a wall accepts
pub record WallLawful (w h : ℕ) : Type 0 where
  pub columns : 1 ≤ w
  pub levels : 1 ≤ h
  pub few : w * h ≤ 64
