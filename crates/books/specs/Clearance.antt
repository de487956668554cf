-- The clearance book: the clear height that each kind of unit asks for, by edition. Assumes nothing.
use Rattle.std.specs.Prelude.{ℕ, zero, suc, Bool, false, List, [], ◌∷◌, Some, None, Option, nat_le}
use Rattle.books.specs.declared.clearance.KindCard.{KindCard}
use Rattle.books.specs.declared.clearance.HeightCard.{HeightCard}

-- the figures in mm by kind: base, wall, tall, hob, sink, oven housing, corner, shelf
abbrev pub figures_one : List ℕ
figures_one = 0 ∷ 600 ∷ 1300 ∷ 650 ∷ 450 ∷ 900 ∷ 0 ∷ 300 ∷ []

-- edition 2 asks for more above a hob
abbrev pub figures_two : List ℕ
figures_two = 0 ∷ 600 ∷ 1300 ∷ 750 ∷ 450 ∷ 900 ∷ 0 ∷ 300 ∷ []

-- the figure for a kind; a kind past the figures has none
abbrev pub figure_of : List ℕ → ℕ → Option ℕ
figure_of [] kind = None
figure_of (figure ∷ more) zero = Some figure
figure_of (figure ∷ more) (suc kind) = figure_of more kind

-- how high a unit may reach in a bay
abbrev pub reach_of : HeightCard → ℕ
reach_of bay = bay.height

-- a height is enough for a figure; none is where there is no figure
abbrev pub enough : Option ℕ → ℕ → Bool
enough None height = false
enough (Some figure) height = nat_le figure height

-- a bay suits when its height is at least the figure for the unit's kind
abbrev pub clears : List ℕ → KindCard → HeightCard → Bool
clears figures unit bay = enough (figure_of figures unit.kind) (reach_of bay)
