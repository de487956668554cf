-- What a placement is. Assumes nothing.
use Rattle.std.specs.Prelude.{◌≡◌, ℕ, ◌<◌, Bool, true, List, length, ◌≢◌, slice_index}
use Rattle.graphs.specs.Graph.{Graph}
use Rattle.graphs.specs.Rows.{Pairs}
use Rattle.placements.specs.Agreement.{agrees}

-- the list w gives each unit of the arrangement a bay of the room, and all its pairs agree
pub record Placement (arrangement room : Graph) (strict : Bool) (w : List ℕ) : Type 0 where
  pub whole : length w ≡ arrangement.count
  pub on_bays : (u : ℕ) → u < arrangement.count → slice_index w u < room.count
  pub agree :
      (u v : ℕ) → u < arrangement.count → v < arrangement.count → (u ≢ v)
      → agrees arrangement room strict u (slice_index w u) v (slice_index w v) ≡ true

-- every unit of the list is on a bay that the pairs allow it
abbrev pub Within : Pairs → List ℕ → Type 0
Within r w = (u : ℕ) → u < length w → r u (slice_index w u) ≡ true
