-- Small rooms worked out. Assumes nothing.
use Rattle.std.specs.Prelude.{◌≡◌, true, false, [], ◌∷◌}
use Rattle.graphs.specs.Graph.{Graph}
use Rattle.graphs.specs.WallGrid.{wall_graph}
use Rattle.degree.specs.Degree.{degree_meaning}

-- two nodes side by side, two that are not joined, and three in a row
abbrev pub pair : Graph
pair = wall_graph 2 1

abbrev pub apart : Graph
apart = record { count = 2; joined = λ a b. false }

abbrev pub line : Graph
line = wall_graph 3 1

pub record Worked : Type 0 where
  -- two joined units on two bays that are not joined: nothing is left
  pub unjoined : degree_meaning pair apart false (3 ∷ 3 ∷ []) ≡ 0 ∷ 0 ∷ []
  -- the middle of a line of three units wants the middle bay
  pub middle : degree_meaning line line false (7 ∷ 7 ∷ 7 ∷ []) ≡ 7 ∷ 2 ∷ 7 ∷ []
  -- two units that are not joined may stand on any bay of the line, but in strict use not on the middle one
  pub spread : degree_meaning apart line false (7 ∷ 7 ∷ []) ≡ 7 ∷ 7 ∷ []
  pub spread_strict : degree_meaning apart line true (7 ∷ 7 ∷ []) ≡ 5 ∷ 5 ∷ []
  -- too few rows are left alone
  pub short : degree_meaning pair apart false (3 ∷ []) ≡ 3 ∷ []
