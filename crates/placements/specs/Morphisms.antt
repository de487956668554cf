-- Placements in the words of graph theory: monomorphisms, and isomorphisms onto induced subgraphs. Assumes nothing.
use Rattle.std.specs.Prelude.{◌≡◌, ℕ, ◌<◌, Bool, true, false, ◌&&◌, ◌↔◌, List, length, slice_index}
use Rattle.graphs.specs.Graph.{Graph, Sound, Symmetric}
use Rattle.placements.specs.Agreement.{agrees}
use Rattle.placements.specs.Placement.{Placement}

-- f is a monomorphism of the graph a into the graph r: an injective map of the nodes that keeps joints
pub record Mono (a r : Graph) (f : ℕ → ℕ) : Type 0 where
  pub into : (u : ℕ) → u < a.count → f u < r.count
  pub injective : (u v : ℕ) → u < a.count → v < a.count → f u ≡ f v → u ≡ v
  pub keeps : (u v : ℕ) → u < a.count → v < a.count → a.joined u v ≡ true → r.joined (f u) (f v) ≡ true

-- the joints of the subgraph that a set of nodes induces: those of the graph with both ends in the set
abbrev pub joined_in : Graph → (ℕ → Bool) → ℕ → ℕ → Bool
joined_in r nodes b c = (nodes b && nodes c) && r.joined b c

-- f is an isomorphism of the graph a onto the subgraph that the set `nodes` induces in r: a bijection of the nodes of a onto
-- that set, under which two nodes are joined in a exactly where their images are joined in the subgraph
pub record Induced (a r : Graph) (f : ℕ → ℕ) : Type 0 where
  pub nodes : ℕ → Bool
  pub of_room : (b : ℕ) → nodes b ≡ true → b < r.count
  pub into : (u : ℕ) → u < a.count → nodes (f u) ≡ true
  pub injective : (u v : ℕ) → u < a.count → v < a.count → f u ≡ f v → u ≡ v
  pub onto : (b : ℕ) → nodes b ≡ true → (u : ℕ) × (u < a.count) × (f u ≡ b)
  pub same : (u v : ℕ) → u < a.count → v < a.count → a.joined u v ≡ joined_in r nodes (f u) (f v)

-- where joints hold both ways: the bays differ, those of joined units are joined, and in strict use those of others are not
pub record AgreeOnce (a r : Graph) (strict : Bool) (u b v c : ℕ) : Type 0 where
  pub differ : b ≡ c → ⊥
  pub joins : a.joined u v ≡ true → r.joined b c ≡ true
  pub parts : strict ≡ true → a.joined u v ≡ false → r.joined b c ≡ false

-- theorem: where joints hold both ways, agreement says just that
abbrev pub AgreementOnce : Type 0
AgreementOnce =
    (a r : Graph) → Symmetric a → Symmetric r → (strict : Bool) (u b v c : ℕ)
    → (agrees a r strict u b v c ≡ true) ↔ AgreeOnce a r strict u b v c

-- theorem: a list of one bay a unit is a placement in open use exactly where it is a monomorphism
abbrev pub OpenIsMono : Type 0
OpenIsMono =
    (a r : Graph) → Sound a → Sound r → Symmetric a → Symmetric r → (w : List ℕ) → length w ≡ a.count
    → Placement a r false w ↔ Mono a r (λ u. slice_index w u)

-- theorem: and in strict use exactly where it is an isomorphism onto the subgraph that its bays induce in the room
abbrev pub StrictIsInduced : Type 0
StrictIsInduced =
    (a r : Graph) → Sound a → Sound r → Symmetric a → Symmetric r → (w : List ℕ) → length w ≡ a.count
    → Placement a r true w ↔ Induced a r (λ u. slice_index w u)
