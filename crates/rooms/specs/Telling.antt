-- The answers of a list of calls, worked out one by one. Assumes nothing.
use Rattle.std.specs.Prelude.{ℕ, not, List, [], ◌∷◌, length, Some, None, Option}
use Rattle.placements.specs.Listing.{find}
use Rattle.ledgers.specs.Calls.{Call, begin, «open», strike, free, fit, fit_further, seek, further, what_if, tally, save, Answer, done, number, found, yes, none, refused, buffer_of}
use Rattle.ledgers.specs.Wanted.{wanted, held_to}
use Rattle.ledgers.specs.Ledger.{Ledger, open_pairs, form_of, Verdict, accepted, declined, verdict, find_in, ledger}
use Rattle.ledgers.specs.Answered.{over, how_many, tries_in, Right}

-- an answer and the buffer after it
pub record Told : Type 0 where
  pub answer : Answer
  pub buffer : List ℕ

abbrev pub told : Answer → List ℕ → Told
told a b = record { answer = a; buffer = b }

abbrev pub by_find : Option (List ℕ) → ℕ → List ℕ → Told
by_find (Some w) t out = told (found t) (over w out)
by_find None t out = told (none t) out

abbrev pub by_ask : Option (List ℕ) → ℕ → Told
by_ask (Some w) t = told (yes t) []
by_ask None t = told (none t) []

-- what an accepted call answers
abbrev pub accepted_tells : Ledger → Call → Told
accepted_tells l (begin m n) = told done []
accepted_tells l («open» bs) = told done []
accepted_tells l (strike u b) = told done []
accepted_tells l (free u b) = told done []
accepted_tells l (fit c) = told done []
accepted_tells l (fit_further c) = told done []
accepted_tells l (seek s out) = by_find (find_in l s None) (tries_in l s (open_pairs l) None) out
accepted_tells l (further s out) = by_find (find_in l s l.last) (tries_in l s (open_pairs l) l.last) out
accepted_tells l (what_if u b s) =
    by_ask (find l.units l.bays (wanted s (held_to (open_pairs l) u b) None)) (tries_in l s (held_to (open_pairs l) u b) None)
accepted_tells l tally = told (number (how_many l.units l.bays (λ u v. not (l.struck u v)))) []
accepted_tells l (save out) = told (number (length (form_of l))) (over (form_of l) out)

abbrev pub by : Verdict → Call → Told → Told
by accepted c t = t
by (declined e) c t = told (refused e) (buffer_of c)

-- what a call answers, declined or not
abbrev pub tells : Ledger → Call → Told
tells l c = by (verdict l c) c (accepted_tells l c)

-- the answers of a list of calls, the newest first
abbrev pub answers : List Call → List Told
answers [] = []
answers (c ∷ h) = tells (ledger h) c ∷ answers h

-- theorem: what is worked out so is right
abbrev pub TellsRight : Type 0
TellsRight = (l : Ledger) (c : Call) → Right l c (tells l c).answer (tells l c).buffer
