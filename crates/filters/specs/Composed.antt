-- Filters that take nothing away, that follow one another, or that are repeated. Assumes nothing.
use Rattle.std.specs.Prelude.{◌≡◌, ℕ, zero, suc, ◌<◌, cond, List, ◌==◌, ◌≢◌}
use Rattle.filters.specs.Filter.{Meaning, pair_count}

-- nothing is taken away
abbrev pub open_meaning : Meaning
open_meaning a r strict rows = rows

-- the second is shown what the first leaves
abbrev pub then_meaning : Meaning → Meaning → Meaning
then_meaning f g a r strict rows = g a r strict (f a r strict rows)

-- the rows at the first turn that takes nothing away, within so many turns more
abbrev pub repeat : ℕ → (List ℕ → List ℕ) → List ℕ → List ℕ
repeat zero f rows = f rows
repeat (suc turns) f rows = cond (pair_count (f rows) == pair_count rows) (f rows) (repeat turns f (f rows))

-- there are never more turns than pairs
abbrev pub repeat_meaning : Meaning → Meaning
repeat_meaning f a r strict rows = repeat (pair_count rows) (f a r strict) rows

-- the rows after k turns
abbrev pub after_turns : ℕ → (List ℕ → List ℕ) → List ℕ → List ℕ
after_turns zero f rows = rows
after_turns (suc k) f rows = after_turns k f (f rows)

-- what repeating comes to, with no bound on the turns: the first rows of all that the turns leave which one more turn leaves as
-- they are
pub record Settles (f : List ℕ → List ℕ) (rows left : List ℕ) : Type 0 where
  pub turns : ℕ
  pub reached : after_turns turns f rows ≡ left
  pub settled : f left ≡ left
  pub first : (k : ℕ) → k < turns → f (after_turns k f rows) ≢ after_turns k f rows
