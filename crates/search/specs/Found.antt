-- What the public calls answer, and the theorems on it. Assumes nothing.
use Rattle.std.specs.Prelude.{◌≡◌, ℕ, ◌-◌, min, Bool, true, cond, List, ◌++◌, length, take, replicate, Some, None, Ok, Err, Option, Result}
use Rattle.graphs.specs.Rows.{pairs}
use Rattle.graphs.specs.Graph.{Graph, Sound}
use Rattle.placements.specs.Placement.{Placement, Within}
use Rattle.placements.specs.Order.{Before, IsFirst, Answers}
use Rattle.filters.specs.Filter.{Meaning, Lawful, shaped}
use Rattle.search.specs.declared.Find.{Find}
use Rattle.search.specs.declared.SearchError.{SearchError}
use Rattle.search.specs.declared.SearchError.TheVariants.{IllShaped, NoPlacement}
use Rattle.search.specs.Walk.{Setting, setting, Outcome, walk}

-- the tries as they are answered: their count stops at 4294967295
abbrev pub told : ℕ → ℕ
told n = min n 4294967295

-- the bays of a placement, with zeros behind them
abbrev pub padded : List ℕ → List ℕ
padded w = w ++ replicate (24 - length w) 0

-- what a part of the walk comes to: a find, or none after so many tries
abbrev pub found_with : Option (List ℕ) → ℕ → Result Find ℕ
found_with (Some w) tries = Ok (record { bays = padded w; tries = told tries })
found_with None tries = Err (told tries)

-- what is answered of a find, or of none, after so many tries
abbrev pub answer_with : Option (List ℕ) → ℕ → Result Find SearchError
answer_with (Some w) tries = Ok (record { bays = padded w; tries = told tries })
answer_with None tries = Err (NoPlacement (told tries))

-- rows of another shape are declined; otherwise the walk's outcome is answered
abbrev pub answer_of : Bool → Outcome → Result Find SearchError
answer_of ok o = cond ok (answer_with o.found o.tries) (Err IllShaped)

-- a placement within the rows
abbrev pub Sought : Graph → Graph → Bool → List ℕ → List ℕ → Type 0
Sought a r strict rows w = Placement a r strict w × Within (pairs rows) w

-- a placement within the rows that comes after the last answer
abbrev pub SoughtAfter : Graph → Graph → Bool → List ℕ → List ℕ → List ℕ → Type 0
SoughtAfter a r strict rows last w = Placement a r strict w × Within (pairs rows) w × Before last w

-- What is answered of so many tries, for rows of the right shape: the first list of m bays that P holds of, or that there is none.
abbrev pub Searched : (List ℕ → Type 0) → ℕ → ℕ → Result Find SearchError → Type 0
Searched P m tries (Ok find) = IsFirst P (take m find.bays) × (find.tries ≡ told tries)
Searched P m tries (Err (NoPlacement made)) = ((w : List ℕ) → P w → ⊥) × (made ≡ told tries)
Searched P m tries (Err IllShaped) = ⊥

-- A search with any lawful filter answers the first placement within the rows in dictionary order, and none exactly where there
-- is none.
abbrev pub FindsFirst : Type 0
FindsFirst =
    (w : Setting) (rows : List ℕ) → Lawful w.filter → Sound w.arrangement → Sound w.room
    → shaped w.arrangement w.room rows ≡ true
    → Answers (Sought w.arrangement w.room w.strict rows) (walk w None rows).found

-- A search after a last answer answers the first that comes after it.
abbrev pub FindsNext : Type 0
FindsNext =
    (w : Setting) (rows last : List ℕ) → Lawful w.filter → Sound w.arrangement → Sound w.room
    → shaped w.arrangement w.room rows ≡ true
    → Answers (SoughtAfter w.arrangement w.room w.strict rows last) (walk w (Some last) rows).found

-- Any two lawful filters find the same placement.
abbrev pub FiltersAlike : Type 0
FiltersAlike =
    (a r : Graph) (strict : Bool) (f g : Meaning) (last : Option (List ℕ)) (rows : List ℕ) → Lawful f → Lawful g → Sound a → Sound r
    → shaped a r rows ≡ true → (walk (setting a r strict f) last rows).found ≡ (walk (setting a r strict g) last rows).found
