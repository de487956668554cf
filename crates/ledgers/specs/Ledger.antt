-- The ledger of a plan, worked out from its calls alone. Assumes nothing.
use Rattle.std.specs.Prelude.{ℕ, Bool, true, false, cond, not, ◌&&◌, ◌||◌, List, [], ◌∷◌, length, Some, None, Ok, Err, Option, Result, ◌==◌, nat_lt}
use Rattle.refusals.specs.declared.Reason.{Reason}
use Rattle.refusals.specs.declared.Reason.TheVariants as R
use Rattle.graphs.specs.Rows.{Pairs, pairs, rows_of}
use Rattle.placements.specs.Listing.{find}
use Rattle.books.specs.Fit.{Cards}
use Rattle.search.specs.Walk.{Setting}
use Rattle.tables.specs.Form.{Form}
use Rattle.saved.specs.declared.fault.PlanFault.{PlanFault}
use Rattle.saved.specs.Plan.{read_plan, plan_bytes}
use Rattle.saved.specs.Told.{plan_told}
use Rattle.ledgers.specs.Calls.{Call, begin, «open», strike, free, fit, fit_further, seek, further, what_if, tally, save, Refusal, rule, ill}
use Rattle.ledgers.specs.Wanted.{wanted}

-- the fitted pairs, or no fit
pub data Fitting : Type 0 where
  unfitted : Fitting
  fits : Pairs → Fitting

-- sizes, struck pairs, fitted pairs or no fit, and the last answer or none
pub record Ledger : Type 0 where
  pub units : ℕ
  pub bays : ℕ
  pub struck : Pairs
  pub fitted : Fitting
  pub last : Option (List ℕ)

-- a started plan: no fit and no last answer
abbrev pub begun : ℕ → ℕ → Pairs → Ledger
begun m n s = record { units = m; bays = n; struck = s; fitted = unfitted; last = None }

abbrev pub no_pairs : Pairs
no_pairs u b = false

abbrev pub one_pair : ℕ → ℕ → Pairs
one_pair u b v c = u == v && b == c

-- the open pairs: fitted and not struck
abbrev pub open_in : Fitting → Pairs → Pairs
open_in unfitted s u b = false
open_in (fits f) s u b = f u b && not (s u b)

abbrev pub open_pairs : Ledger → Pairs
open_pairs l = open_in l.fitted l.struck

-- the saved form: the sizes and the strikes, and nothing of a fit
abbrev pub saved_form : ℕ → ℕ → Pairs → List ℕ
saved_form m n s = plan_bytes (record { columns = n; rows = rows_of m n s })

abbrev pub form_of : Ledger → List ℕ
form_of l = saved_form l.units l.bays l.struck

-- ---- when a call declines

pub data Verdict : Type 0 where
  accepted : Verdict
  declined : Refusal → Verdict

abbrev pub unless : Reason → Bool → Verdict → Verdict
unless k broken otherwise = cond broken (declined (rule k)) otherwise

abbrev pub no_fit : Fitting → Bool
no_fit unfitted = true
no_fit (fits f) = false

abbrev pub no_last : Option (List ℕ) → Bool
no_last None = true
no_last (Some w) = false

-- a unit from m up or a bay from n up
abbrev pub outside : Ledger → ℕ → ℕ → Bool
outside l u b = not (nat_lt u l.units) || not (nat_lt b l.bays)

-- other than one card a unit and one a bay
abbrev pub other_cards : Ledger → Cards → Bool
other_cards l c = not (c.for_units == l.units) || not (c.for_bays == l.bays)

-- an arrangement of other than m units, or a room of other than n bays
abbrev pub other_counts : Ledger → Setting → Bool
other_counts l s = not (s.arrangement.count == l.units) || not (s.room.count == l.bays)

-- units outside 1 to 24 or bays outside 1 to 64
abbrev pub ill_sizes : ℕ → ℕ → Bool
ill_sizes m n = nat_lt m 1 || (nat_lt 24 m || (nat_lt n 1 || nat_lt 64 n))

abbrev pub readable : Result Form PlanFault → Verdict
readable (Ok f) = accepted
readable (Err e) = declined (ill (plan_told e))

-- which refusal comes, the first listed of several, or none
abbrev pub verdict : Ledger → Call → Verdict
verdict l (begin m n) = unless R.Sizes (ill_sizes m n) accepted
verdict l («open» bs) = readable (read_plan bs 0)
verdict l (strike u b) = unless R.OutOfRange (outside l u b) (unless R.Standing (l.struck u b) accepted)
verdict l (free u b) = unless R.OutOfRange (outside l u b) (unless R.Standing (not (l.struck u b)) accepted)
verdict l (fit c) = unless R.CardCount (other_cards l c) accepted
verdict l (fit_further c) = unless R.CardCount (other_cards l c) (unless R.NoFit (no_fit l.fitted) accepted)
verdict l (seek s out) =
    unless R.NoFit (no_fit l.fitted) (unless R.OtherCount (other_counts l s) (unless R.ShortBuffer (nat_lt (length out) l.units) accepted))
verdict l (further s out) =
    unless R.NoFit (no_fit l.fitted) (unless R.OtherCount (other_counts l s)
    (unless R.NoLastAnswer (no_last l.last) (unless R.ShortBuffer (nat_lt (length out) l.units) accepted)))
verdict l (what_if u b s) = unless R.OutOfRange (outside l u b) (unless R.NoFit (no_fit l.fitted) (unless R.OtherCount (other_counts l s) accepted))
verdict l tally = accepted
verdict l (save out) = unless R.NoRoom (nat_lt (length out) (length (form_of l))) accepted

-- ---- what an accepted call makes of the ledger

abbrev pub with_struck : Ledger → Pairs → Ledger
with_struck l s = record { units = l.units; bays = l.bays; struck = s; fitted = l.fitted; last = l.last }

abbrev pub with_fitted : Ledger → Fitting → Ledger
with_fitted l f = record { units = l.units; bays = l.bays; struck = l.struck; fitted = f; last = l.last }

-- a find becomes the last answer
abbrev pub newest : Option (List ℕ) → Option (List ℕ) → Option (List ℕ)
newest None o = o
newest (Some w) o = Some w

abbrev pub with_find : Ledger → Option (List ℕ) → Ledger
with_find l f = record { units = l.units; bays = l.bays; struck = l.struck; fitted = l.fitted; last = newest f l.last }

-- fitted pairs that a book refuses are dropped
abbrev pub narrowed_by : Fitting → Pairs → Fitting
narrowed_by unfitted r = unfitted
narrowed_by (fits f) r = fits (λ u b. f u b && r u b)

-- the strikes that bytes name
abbrev pub opened : Ledger → Result Form PlanFault → Ledger
opened l (Ok f) = begun (length f.rows) f.columns (pairs f.rows)
opened l (Err e) = l

-- the first placement within the open pairs, after the last answer o where there is one
abbrev pub find_in : Ledger → Setting → Option (List ℕ) → Option (List ℕ)
find_in l s o = find l.units l.bays (wanted s (open_pairs l) o)

abbrev pub made : Ledger → Call → Ledger
made l (begin m n) = begun m n no_pairs
made l («open» bs) = opened l (read_plan bs 0)
made l (strike u b) = with_struck l (λ v c. l.struck v c || one_pair u b v c)
made l (free u b) = with_struck l (λ v c. l.struck v c && not (one_pair u b v c))
made l (fit k) = with_fitted l (fits (λ u b. (nat_lt u l.units && nat_lt b l.bays) && k.suits u b))
made l (fit_further k) = with_fitted l (narrowed_by l.fitted k.suits)
made l (seek s out) = with_find l (find_in l s None)
made l (further s out) = with_find l (find_in l s l.last)
made l (what_if u b s) = l
made l tally = l
made l (save out) = l

abbrev pub by_verdict : {X : Type 0} → Verdict → X → X → X
by_verdict accepted x y = x
by_verdict (declined e) x y = y

-- a declined call counts as not made
abbrev pub after : Ledger → Call → Ledger
after l c = by_verdict (verdict l c) (made l c) l

-- the ledger of a list of calls, the newest first; a new plan stands as if begun with one unit and one bay
abbrev pub ledger : List Call → Ledger
ledger [] = begun 1 1 no_pairs
ledger (c ∷ h) = after (ledger h) c
