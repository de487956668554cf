-- Whole runs of a plan, any list of calls, declined ones too, and the law over them. Assumes nothing.
use Rattle.std.specs.Prelude.{◌≡◌, ℕ, ◌+◌, ◌*◌, ◌<◌, ◌≤◌, Bool, true, false, cond, not, ◌⊎◌, List, [], ◌∷◌, length, Some, None, Option}
use Rattle.refusals.specs.declared.Reason.TheVariants.{NoRoom}
use Rattle.graphs.specs.Rows.{Pairs}
use Rattle.placements.specs.Order.{IsFirst, Answers}
use Rattle.search.specs.Walk.{Setting}
use Rattle.ledgers.specs.Calls.{Call, begin, «open», strike, free, fit, fit_further, seek, further, what_if, tally, save, Refusal, rule, Answer, done, number, found, yes, none, refused, buffer_of}
use Rattle.ledgers.specs.Wanted.{held_to}
use Rattle.ledgers.specs.Ledger.{Ledger, begun, ledger, accepted, declined, verdict, made, saved_form, form_of, other_counts, open_pairs, find_in}
use Rattle.ledgers.specs.Answered.{over, how_many, tries_in, Open, SomeHas}
use Rattle.ledgers.specs.Counts.{counted}
use Rattle.ledgers.specs.Ranged.{Ranged}
use Rattle.plans.specs.Step.{view, Same, Turn, turn, Step, Fresh, Shows}
use Rattle.plans.specs.declared.plan.Plan.{Plan}

-- the calls of a list of turns
abbrev pub calls : List Turn → List Call
calls [] = []
calls (x ∷ t) = x.call ∷ calls t

-- the plan q comes of a new plan by these turns, the newest first: each turn does what the contract of its call ensures
abbrev pub Run : List Turn → Plan → Type 0
Run [] q = Fresh q
Run (x ∷ t) q = (p : Plan) × Run t p × Shows x.call × Step p x q

-- one turn more of a run
pub record Next (c : Call) (a : Answer) (b : List ℕ) : Type 0 where
  pub turns : List Turn
  pub before : Plan
  pub after : Plan
  pub run : Run turns before
  pub shows : Shows c
  pub step : Step before (turn c a b) after

-- the ledger of the calls before that turn, and after it
abbrev pub was : {c : Call} {a : Answer} {b : List ℕ} → Next c a b → Ledger
was x = ledger (calls x.turns)

abbrev pub becomes : {c : Call} {a : Answer} {b : List ℕ} → Next c a b → Ledger
becomes {c = c} x = ledger (c ∷ calls x.turns)

-- the turn has changed nothing
pub record Unchanged {c : Call} {a : Answer} {b : List ℕ} (x : Next c a b) : Type 0 where
  pub plan : Same x.after x.before
  pub ledger : becomes x ≡ was x

-- begin, open, strike, free, fit and fit further
abbrev pub works : Call → Bool
works (begin m n) = true
works («open» bs) = true
works (strike u b) = true
works (free u b) = true
works (fit c) = true
works (fit_further c) = true
works (seek s out) = false
works (further s out) = false
works (what_if u b s) = false
works tally = false
works (save out) = false

-- A search after o, where there is one, with its tries: the first placement within the open pairs goes to the buffer and becomes
-- the last answer; or there is none, which is reason 9, and nothing is changed.
abbrev pub Searches : {c : Call} {a : Answer} {b : List ℕ} → Next c a b → Setting → Option (List ℕ) → List ℕ → Type 0
Searches {a = a} {b = b} x s o out =
    let l = was x in
    let t = tries_in l s (open_pairs l) o in
    ((w : List ℕ) × IsFirst (Open l s o) w × (a ≡ found t) × (b ≡ over w out) × ((becomes x).last ≡ Some w))
    ⊎ (((w : List ℕ) → Open l s o w → ⊥) × (a ≡ none t) × (b ≡ out) × Unchanged x)

-- the turns that are no what-ifs
abbrev pub asks : Call → Bool
asks (begin m n) = false
asks («open» bs) = false
asks (strike u b) = false
asks (free u b) = false
asks (fit c) = false
asks (fit_further c) = false
asks (seek s out) = false
asks (further s out) = false
asks (what_if u b s) = true
asks tally = false
asks (save out) = false

abbrev pub others : List Turn → List Turn
others [] = []
others (x ∷ t) = cond (asks x.call) (others t) (x ∷ others t)

-- For a new plan taken through any list of its calls, with anything sound and lawful shown, the answers are those worked out from
-- the calls alone.
pub record Law : Type 0 where
  -- the plan keeps to its ledger
  pub kept : (t : List Turn) (p : Plan) → Run t p → view p ≡ ledger (calls t)
  -- which refusal comes is the one read on the ledger; it changes neither the plan nor the buffer
  pub declines :
      (c : Call) (a : Answer) (b : List ℕ) (x : Next c a b) (e : Refusal) → verdict (was x) c ≡ declined e
      → (a ≡ refused e) × (b ≡ buffer_of c) × Unchanged x
  -- an accepted begin, open, strike, free, fit or fit further is done
  pub does :
      (c : Call) (a : Answer) (b : List ℕ) (x : Next c a b) → verdict (was x) c ≡ accepted → works c ≡ true → a ≡ done
  -- an accepted seek answers the first placement within the open pairs exactly where there is one
  pub seeks :
      (s : Setting) (out : List ℕ) (a : Answer) (b : List ℕ) (x : Next (seek s out) a b) → verdict (was x) (seek s out) ≡ accepted
      → Searches x s None out
  -- an accepted further does so among the placements after the last answer
  pub furthers :
      (s : Setting) (out : List ℕ) (a : Answer) (b : List ℕ) (x : Next (further s out) a b) → verdict (was x) (further s out) ≡ accepted
      → Searches x s (was x).last out
  -- an accepted what-if says yes exactly where some placement within the open pairs has the unit on the bay, and changes nothing
  pub what_ifs :
      (u v : ℕ) (s : Setting) (a : Answer) (b : List ℕ) (x : Next (what_if u v s) a b) → verdict (was x) (what_if u v s) ≡ accepted
      → ((SomeHas (was x) s u v × (a ≡ yes (tries_in (was x) s (held_to (open_pairs (was x)) u v) None)))
      ⊎ ((SomeHas (was x) s u v → ⊥) × (a ≡ none (tries_in (was x) s (held_to (open_pairs (was x)) u v) None))))
      × Unchanged x
  -- a tally is the number of pairs not struck: units times bays, less those that the latest start struck, less the strikes
  -- accepted since then, and the frees accepted since then more
  pub tallies :
      (a : Answer) (b : List ℕ) (x : Next tally a b)
      → (k : ℕ) × (a ≡ number k) × (k ≡ how_many (was x).units (was x).bays (λ u v. not ((was x).struck u v)))
      × (k + ((counted (calls x.turns)).starts + (counted (calls x.turns)).strikes) ≡ (was x).units * (was x).bays + (counted (calls x.turns)).frees)
      × Unchanged x
  -- a save writes the saved form of the sizes and strikes, where the buffer has room
  pub saves :
      (out : List ℕ) (a : Answer) (b : List ℕ) (x : Next (save out) a b)
      → ((length out < length (form_of (was x))) × (a ≡ refused (rule NoRoom)) × (b ≡ out) × Unchanged x)
      ⊎ ((length (form_of (was x)) ≤ length out) × (a ≡ number (length (form_of (was x)))) × (b ≡ over (form_of (was x)) out) × Unchanged x)
  -- in two runs whose calls differ only in what-ifs, the other calls answer and write alike, and the plans hold the same
  pub alike :
      (s t : List Turn) (p q : Plan) → Run s p → Run t q → calls (others s) ≡ calls (others t) → (others s ≡ others t) × (view p ≡ view q)
  -- bytes open to sizes and strikes, without fit and last answer, exactly where they are the saved form of these
  pub opened_is_saved :
      (l : Ledger) (bs : List ℕ) (m n : ℕ) (s : Pairs) → Shows («open» bs)
      → ((verdict l («open» bs) ≡ accepted) × (made l («open» bs) ≡ begun m n s) → Ranged m n s × (bs ≡ saved_form m n s))
      × (Ranged m n s × (bs ≡ saved_form m n s) → (verdict l («open» bs) ≡ accepted) × (made l («open» bs) ≡ begun m n s))
  -- what a run's plan saves opens to its sizes and strikes
  pub saved_opens :
      (t : List Turn) (p : Plan) → Run t p → (l : Ledger)
      → (verdict l («open» (form_of (ledger (calls t)))) ≡ accepted)
      × (made l («open» (form_of (ledger (calls t)))) ≡ begun (ledger (calls t)).units (ledger (calls t)).bays (ledger (calls t)).struck)
  -- the ledger's find is the first, and none where there is none
  pub find_is_first : (l : Ledger) (s : Setting) (o : Option (List ℕ)) → other_counts l s ≡ false → Answers (Open l s o) (find_in l s o)
  -- every run can go on with every call
  pub goes_on :
      (t : List Turn) (p : Plan) → Run t p → (c : Call) → Shows c → (a : Answer) × (b : List ℕ) × (q : Plan) × Step p (turn c a b) q
