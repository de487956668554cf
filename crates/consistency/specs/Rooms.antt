-- Small rooms worked through. Assumes nothing.
use Rattle.std.specs.Prelude.{◌≡◌, ℕ, Bool, true, false, ◌&&◌, ◌||◌, List, [], ◌∷◌, map, ◌==◌}
use Rattle.graphs.specs.Graph.{Graph}
use Rattle.consistency.specs.Support.{support_meaning}

-- the pairs listed are joined, both ways
abbrev pub among : List (ℕ × ℕ) → ℕ → ℕ → Bool
among [] a b = false
among (j ∷ js) a b = ((j.0 == a && j.1 == b) || (j.0 == b && j.1 == a)) || among js a b

abbrev pub graph : ℕ → List (ℕ × ℕ) → Graph
graph n js = record { count = n; joined = among js }

abbrev pub triangle : Graph
triangle = graph 3 ((0, 1) ∷ (1, 2) ∷ (0, 2) ∷ [])

abbrev pub ring_of_four : Graph
ring_of_four = graph 4 ((0, 1) ∷ (1, 2) ∷ (2, 3) ∷ (0, 3) ∷ [])

abbrev pub two_joined : Graph
two_joined = graph 2 ((0, 1) ∷ [])

abbrev pub two_apart : Graph
two_apart = graph 2 []

abbrev pub three_apart : Graph
three_apart = graph 3 []

abbrev pub lone : Graph
lone = graph 1 []

-- an arrangement, a room, the strictness, the rows shown and the rows left
pub record Room : Type 0 where
  pub units : Graph
  pub bays : Graph
  pub strict : Bool
  pub shown : List ℕ
  pub left : List ℕ

abbrev pub room : Graph → Graph → Bool → List ℕ → List ℕ → Room
room a r s xs ys = record { units = a; bays = r; strict = s; shown = xs; left = ys }

-- in order: three units all joined on a ring of four bays, all open; with unit 0 settled; settled and cut to what agrees; three
-- units unjoined with the bays 0 and 1 open; two joined units on two unjoined bays; two unjoined units on two joined bays, one
-- settled; the same in strict use, all open; two joined units in strict use, one settled; rows of another shape; one unit with
-- no bay open
abbrev pub rooms : List Room
rooms =
    room triangle ring_of_four false (15 ∷ 15 ∷ 15 ∷ []) (15 ∷ 15 ∷ 15 ∷ [])
    ∷ room triangle ring_of_four false (1 ∷ 15 ∷ 15 ∷ []) (0 ∷ 0 ∷ 0 ∷ [])
    ∷ room triangle ring_of_four false (1 ∷ 10 ∷ 10 ∷ []) (0 ∷ 0 ∷ 0 ∷ [])
    ∷ room three_apart ring_of_four false (3 ∷ 3 ∷ 3 ∷ []) (3 ∷ 3 ∷ 3 ∷ [])
    ∷ room two_joined two_apart false (3 ∷ 3 ∷ []) (0 ∷ 0 ∷ [])
    ∷ room two_apart two_joined false (3 ∷ 1 ∷ []) (2 ∷ 1 ∷ [])
    ∷ room two_apart two_joined true (3 ∷ 3 ∷ []) (0 ∷ 0 ∷ [])
    ∷ room two_joined ring_of_four true (7 ∷ 1 ∷ []) (2 ∷ 1 ∷ [])
    ∷ room two_joined ring_of_four true (7 ∷ 16 ∷ []) (7 ∷ 16 ∷ [])
    ∷ room lone ring_of_four false (0 ∷ []) (0 ∷ [])
    ∷ []

-- what the meaning of arc consistency leaves in each
abbrev pub RoomsHold : Type 0
RoomsHold =
    map (λ (x : Room). support_meaning x.units x.bays x.strict x.shown) rooms ≡ map (λ (x : Room). x.left) rooms
