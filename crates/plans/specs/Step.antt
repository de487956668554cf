-- What one call does to a plan's record: what the calls ensure. Assumes nothing.
use Rattle.std.specs.Prelude.{◌≡◌, ℕ, ◌<◌, Bool, true, false, List, take, Some, None, Option, slice_index}
use Rattle.graphs.specs.Rows.{pairs}
use Rattle.ledgers.specs.Calls.{Call, begin, «open», strike, free, fit, fit_further, seek, further, what_if, tally, save, Answer, done, number, found, yes, none, refused}
use Rattle.ledgers.specs.Wanted.{Fair}
use Rattle.ledgers.specs.Ledger.{Ledger, Fitting, unfitted, fits, begun, no_pairs, after}
use Rattle.ledgers.specs.Answered.{Right}
use Rattle.plans.specs.declared.plan.Plan.{Plan}

-- the pairs of the fitted rows, where there is a fit
abbrev pub fitting : Option (List ℕ) → Fitting
fitting None = unfitted
fitting (Some rows) = fits (pairs rows)

-- the last answer has a bay for each unit, and zeros behind
abbrev pub shortened : ℕ → Option (List ℕ) → Option (List ℕ)
shortened m None = None
shortened m (Some w) = Some (take m w)

-- what a plan's record holds
abbrev pub view : Plan → Ledger
view p = record { units = p.units; bays = p.bays; struck = pairs p.struck; fitted = fitting p.fitted; last = shortened p.units p.last }

-- the one record has every field as the other
pub record Same (p q : Plan) : Type 0 where
  pub units : p.units ≡ q.units
  pub bays : p.bays ≡ q.bays
  pub struck : p.struck ≡ q.struck
  pub fitted : p.fitted ≡ q.fitted
  pub last : p.last ≡ q.last

-- a plan as it stands at a start, with these sizes and strikes
pub record Started (m n : ℕ) (rows : List ℕ) (q : Plan) : Type 0 where
  pub units : q.units ≡ m
  pub bays : q.bays ≡ n
  pub struck : q.struck ≡ rows
  pub fitted : q.fitted ≡ None
  pub last : q.last ≡ None

-- a call, what it answered, and the buffer at its return
pub record Turn : Type 0 where
  pub call : Call
  pub answer : Answer
  pub buffer : List ℕ

abbrev pub turn : Call → Answer → List ℕ → Turn
turn c a b = record { call = c; answer = a; buffer = b }

-- a call that answers so has left the plan as it was: a number, a yes, a search without a find, a refusal
abbrev pub idle : Answer → Bool
idle done = false
idle (number k) = true
idle (found t) = false
idle (yes t) = true
idle (none t) = true
idle (refused e) = true

-- What the call answers and writes is right for what the plan p holds, the plan q holds what the call makes of that, and an idle
-- call has changed no field.
pub record Step (p : Plan) (x : Turn) (q : Plan) : Type 0 where
  pub right : Right (view p) x.call x.answer x.buffer
  pub holds : view q ≡ after (view p) x.call
  pub same : idle x.answer ≡ true → Same q p

-- a new plan
pub record Fresh (q : Plan) : Type 0 where
  pub holds : view q ≡ begun 1 1 no_pairs

-- what a call is shown is sound and lawful, and bytes are bytes
abbrev pub Shows : Call → Type 0
Shows (begin m n) = Unit {0}
Shows («open» bs) = (i : ℕ) → slice_index bs i < 256
Shows (strike u b) = Unit {0}
Shows (free u b) = Unit {0}
Shows (fit c) = Unit {0}
Shows (fit_further c) = Unit {0}
Shows (seek s out) = Fair s
Shows (further s out) = Fair s
Shows (what_if u b s) = Fair s
Shows tally = Unit {0}
Shows (save out) = Unit {0}
