-- Two joined units in a row of three bays, worked out. Assumes nothing.
use Rattle.std.proofs.Common.{◌≡◌, true, false, [], ◌∷◌, Some, None, refl}
use Rattle.graphs.specs.WallGrid.{wall_graph}
use Rattle.placements.specs.Tests.{each_below, placement_test}
use Rattle.placements.specs.Listing.{headed, listing, find}

open_use : listing 2 3 (placement_test (wall_graph 2 1) (wall_graph 3 1) false) ≡ (0 ∷ 1 ∷ []) ∷ (1 ∷ 0 ∷ []) ∷ (1 ∷ 2 ∷ []) ∷ (2 ∷ 1 ∷ []) ∷ []
unfolding each_below headed listing
open_use = refl

-- four units of a square do not fit into a row of five
square : find 4 5 (placement_test (wall_graph 2 2) (wall_graph 5 1) false) ≡ None
unfolding each_below headed listing
square = refl

-- in strict use two units that are not joined stand apart
apart : find 2 3 (placement_test (record { count = 2; joined = λ a b. false }) (wall_graph 3 1) true) ≡ Some (0 ∷ 2 ∷ [])
unfolding each_below headed listing
apart = refl
