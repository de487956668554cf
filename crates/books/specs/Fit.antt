-- What fitting by a rule book is handed, and which pairs suit. Assumes nothing.
use Rattle.std.specs.Prelude.{ℕ, zero, suc, Bool, false, List, [], ◌∷◌, length}
use Rattle.graphs.specs.Rows.{Pairs}

-- how many cards there are for units and for bays, and which pairs of them suit
pub record Cards : Type 0 where
  pub for_units : ℕ
  pub for_bays : ℕ
  pub suits : Pairs

-- what a test says of the card at a place of a list: false past its end
abbrev pub passes_at : {Card : Type 0} → (Card → Bool) → List Card → ℕ → Bool
passes_at test [] i = false
passes_at test (card ∷ cards) zero = test card
passes_at test (card ∷ cards) (suc i) = passes_at test cards i

-- cards handed with a book's test: unit i and bay j suit when the test says so of the cards i and j
abbrev pub handed : {U V : Type 0} → (U → V → Bool) → List U → List V → Cards
handed test units bays = record { for_units = length units; for_bays = length bays; suits = λ i j. passes_at (λ unit. passes_at (test unit) bays j) units i }
