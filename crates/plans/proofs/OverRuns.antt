-- The law over runs. Assumes nothing.
use Rattle.std.proofs.Common.{◌≡◌, ℕ, ◌+◌, ◌*◌, ◌<◌, ◌≤◌, Bool, true, false, cond, not, ◌⊎◌, List, [], ◌∷◌, length, Some, None, Option, sym, refl, ap, ◌∙◌, subst, inl, inr, ⊎_elim, arith}
use mathlib.Core.Bool.{false≢true}
use Rattle.std.proofs.lemmas.Bool.{cases_lt, lt-ltb, le-ltb, cond-true, cond-false}
use Rattle.refusals.specs.declared.Reason.TheVariants as R
use Rattle.placements.specs.Order.{Answers}
use Rattle.placements.proofs.Orders.{answers_unique}
use Rattle.search.specs.Walk.{Setting}
use Rattle.ledgers.specs.Calls.{Call, begin, «open», strike, free, fit, fit_further, seek, further, what_if, tally, save, Refusal, rule, Answer, done, number, yes, none, refused, buffer_of}
use Rattle.ledgers.specs.Wanted.{held_to}
use Rattle.ledgers.specs.Ledger.{Ledger, begun, Verdict, accepted, declined, other_counts, verdict, made, by_verdict, after, ledger, form_of, open_pairs, newest, find_in}
use Rattle.ledgers.specs.Answered.{over, how_many, tries_in, Open, Finds, SomeHas, Answered, Judged, Right}
use Rattle.ledgers.specs.Counts.{counted}
use Rattle.ledgers.specs.Ranged.{Ranged}
use Rattle.ledgers.proofs.Finding.{find_wanted}
use Rattle.ledgers.proofs.Verdicts.{keeps_rule, rooms_match, arrangements_match}
use Rattle.ledgers.proofs.Balance.{many_rest, balanced}
use Rattle.ledgers.proofs.Unique.{one_right}
use Rattle.ledgers.proofs.Saving.{opens_to, opened_is_saved}
use Rattle.plans.specs.Step.{view, Turn, turn, idle}
use Rattle.plans.specs.Runs.{calls, Run, Next, was, becomes, Unchanged, works, Searches, asks, others, Law}
use Rattle.plans.specs.declared.plan.Plan.{Plan}
use Rattle.plans.proofs.Steps.{same_view}
use Rattle.plans.proofs.GoingOn.{goes_on, plan_ranged}

-- ---- what every run keeps

run_keeps : (t : List Turn) (q : Plan) → Run t q → view q ≡ ledger (calls t)
run_keeps [] q r = r.holds
run_keeps (x ∷ t) q (p, r, sh, k) = k.holds ∙ ap (λ l. after l x.call) (run_keeps t p r)

accepted_at : (l : Ledger) (c : Call) (a : Answer) (b : List ℕ) → Right l c a b → verdict l c ≡ accepted → Answered l c a b
accepted_at l c a b r e = subst (λ v. Judged v (λ x. (a ≡ refused x) × (b ≡ buffer_of c)) (Answered l c a b)) e r

declined_at : (l : Ledger) (c : Call) (a : Answer) (b : List ℕ) (x : Refusal) → Right l c a b → verdict l c ≡ declined x → (a ≡ refused x) × (b ≡ buffer_of c)
declined_at l c a b x r e = subst (λ v. Judged v (λ x. (a ≡ refused x) × (b ≡ buffer_of c)) (Answered l c a b)) e r

right_at : (c : Call) (a : Answer) (b : List ℕ) (x : Next c a b) → Right (was x) c a b
right_at c a b x = subst (λ l. Right l c a b) (run_keeps x.turns x.before x.run) x.step.right

unchanged : (c : Call) (a : Answer) (b : List ℕ) (x : Next c a b) → idle a ≡ true → Unchanged x
unchanged c a b x i =
    let same = x.step.same i in
    let e = run_keeps x.turns x.before x.run in
    record { plan = same; ledger = sym (x.step.holds ∙ ap (λ l. after l c) e) ∙ same_view x.before x.after same ∙ e }

-- ---- the searches

find_is_first : (l : Ledger) (s : Setting) (o : Option (List ℕ)) → other_counts l s ≡ false → Answers (Open l s o) (find_in l s o)
find_is_first l s o e = find_wanted s (open_pairs l) o l.units l.bays (arrangements_match l s e) (rooms_match l s e)

searched :
    (c : Call) (a : Answer) (b : List ℕ) (x : Next c a b) (s : Setting) (o : Option (List ℕ)) (out : List ℕ) → other_counts (was x) s ≡ false
    → (becomes x).last ≡ newest (find_in (was x) s o) (was x).last → Finds (was x) s o out a b → Searches x s o out
searched c a b x s o out em el (inl (w, first, ea, eb)) =
    let finding = answers_unique (Open (was x) s o) (find_in (was x) s o) (Some w) (find_is_first (was x) s o em) first in
    inl (w, first, ea, eb, el ∙ ap (λ k. newest k (was x).last) finding)
searched c a b x s o out em el (inr (all, ea, eb)) = inr (all, ea, eb, unchanged c a b x (ap idle ea))

seeks : (s : Setting) (out : List ℕ) (a : Answer) (b : List ℕ) (x : Next (seek s out) a b) → verdict (was x) (seek s out) ≡ accepted → Searches x s None out
seeks s out a b x v =
    let l = was x in
    searched (seek s out) a b x s None out (keeps_rule R.OtherCount _ _ (keeps_rule R.NoFit _ _ v).1).0
    (ap (λ z. (by_verdict z (made l (seek s out)) l).last) v) (accepted_at l (seek s out) a b (right_at (seek s out) a b x) v)

furthers : (s : Setting) (out : List ℕ) (a : Answer) (b : List ℕ) (x : Next (further s out) a b) → verdict (was x) (further s out) ≡ accepted → Searches x s (was x).last out
furthers s out a b x v =
    let l = was x in
    searched (further s out) a b x s l.last out (keeps_rule R.OtherCount _ _ (keeps_rule R.NoFit _ _ v).1).0
    (ap (λ z. (by_verdict z (made l (further s out)) l).last) v) (accepted_at l (further s out) a b (right_at (further s out) a b x) v)

what_ifs :
    (u v : ℕ) (s : Setting) (a : Answer) (b : List ℕ) (x : Next (what_if u v s) a b) → verdict (was x) (what_if u v s) ≡ accepted
    → ((SomeHas (was x) s u v × (a ≡ yes (tries_in (was x) s (held_to (open_pairs (was x)) u v) None)))
    ⊎ ((SomeHas (was x) s u v → ⊥) × (a ≡ none (tries_in (was x) s (held_to (open_pairs (was x)) u v) None))))
    × Unchanged x
what_ifs u v s a b x e =
    let c = what_if u v s in
    let r = (accepted_at (was x) c a b (right_at c a b x) e).0 in
    (r, unchanged c a b x (⊎_elim (λ k. ap idle k.1) (λ k. ap idle k.1) r))

does : (c : Call) (a : Answer) (b : List ℕ) (x : Next c a b) → verdict (was x) c ≡ accepted → works c ≡ true → a ≡ done
does (begin m n) a b x v w = (accepted_at (was x) (begin m n) a b (right_at _ a b x) v).0
does («open» bs) a b x v w = (accepted_at (was x) («open» bs) a b (right_at _ a b x) v).0
does (strike u y) a b x v w = (accepted_at (was x) (strike u y) a b (right_at _ a b x) v).0
does (free u y) a b x v w = (accepted_at (was x) (free u y) a b (right_at _ a b x) v).0
does (fit k) a b x v w = (accepted_at (was x) (fit k) a b (right_at _ a b x) v).0
does (fit_further k) a b x v w = (accepted_at (was x) (fit_further k) a b (right_at _ a b x) v).0
does (seek s out) a b x v w = absurd (false≢true w)
does (further s out) a b x v w = absurd (false≢true w)
does (what_if u y s) a b x v w = absurd (false≢true w)
does tally a b x v w = absurd (false≢true w)
does (save out) a b x v w = absurd (false≢true w)

tallies :
    (a : Answer) (b : List ℕ) (x : Next tally a b)
    → (k : ℕ) × (a ≡ number k) × (k ≡ how_many (was x).units (was x).bays (λ u v. not ((was x).struck u v)))
    × (k + ((counted (calls x.turns)).starts + (counted (calls x.turns)).strikes) ≡ (was x).units * (was x).bays + (counted (calls x.turns)).frees)
    × Unchanged x
tallies a b x =
    let l = was x in
    let r = accepted_at l tally a b (right_at tally a b x) refl in
    let all = many_rest l.units l.bays l.struck in
    let even = balanced (calls x.turns) in
    (how_many l.units l.bays (λ u v. not (l.struck u v)), r.0, refl, omega (arith, all, even), unchanged tally a b x (ap idle r.0))

saves :
    (out : List ℕ) (a : Answer) (b : List ℕ) (x : Next (save out) a b)
    → ((length out < length (form_of (was x))) × (a ≡ refused (rule R.NoRoom)) × (b ≡ out) × Unchanged x)
    ⊎ ((length (form_of (was x)) ≤ length out) × (a ≡ number (length (form_of (was x)))) × (b ≡ over (form_of (was x)) out) × Unchanged x)
saves out a b x =
    let l = was x in
    let c = save out in
    ⊎_elim
    (λ lt. let r = declined_at l c a b (rule R.NoRoom) (right_at c a b x) (cond-true _ _ _ (lt-ltb (length out) (length (form_of l)) lt)) in
    inl (lt, r.0, r.1, unchanged c a b x (ap idle r.0)))
    (λ ge. let r = accepted_at l c a b (right_at c a b x) (cond-false _ _ _ (le-ltb (length out) (length (form_of l)) ge)) in
    inr (ge, r.0, r.1, unchanged c a b x (ap idle r.0)))
    (cases_lt (length out) (length (form_of l)))

saved_opens :
    (t : List Turn) (p : Plan) → Run t p → (l : Ledger)
    → (verdict l («open» (form_of (ledger (calls t)))) ≡ accepted)
    × (made l («open» (form_of (ledger (calls t)))) ≡ begun (ledger (calls t)).units (ledger (calls t)).bays (ledger (calls t)).struck)
saved_opens t p r l =
    let k = ledger (calls t) in
    opens_to l k.units k.bays k.struck (subst (λ (x : Ledger). Ranged x.units x.bays x.struck) (run_keeps t p r) (plan_ranged p)) (form_of k) refl

-- ---- two runs that differ only in what-ifs

-- each turn is right for the calls before it
abbrev AllRight : List Turn → Type 0
AllRight [] = Unit {0}
AllRight (x ∷ t) = Right (ledger (calls t)) x.call x.answer x.buffer × AllRight t

runs_right : (t : List Turn) (q : Plan) → Run t q → AllRight t
runs_right [] q r = tt
runs_right (x ∷ t) q (p, r, sh, k) = (subst (λ l. Right l x.call x.answer x.buffer) (run_keeps t p r) k.right, runs_right t p r)

by_same : {X : Type 0} (v : Verdict) (x : X) → by_verdict v x x ≡ x
by_same accepted x = refl
by_same (declined k) x = refl

-- a what-if leaves the ledger as it was
asked_same : (c : Call) (l : Ledger) → asks c ≡ true → l ≡ after l c
asked_same (begin m n) l e = absurd (false≢true e)
asked_same («open» bs) l e = absurd (false≢true e)
asked_same (strike u b) l e = absurd (false≢true e)
asked_same (free u b) l e = absurd (false≢true e)
asked_same (fit x) l e = absurd (false≢true e)
asked_same (fit_further x) l e = absurd (false≢true e)
asked_same (seek s n) l e = absurd (false≢true e)
asked_same (further s n) l e = absurd (false≢true e)
asked_same (what_if u b s) l e = sym (by_same (verdict l (what_if u b s)) l)
asked_same tally l e = absurd (false≢true e)
asked_same (save out) l e = absurd (false≢true e)

likeness : (t : List Turn) → ledger (calls (others t)) ≡ ledger (calls t)
likeness [] = refl
likeness (x ∷ t) =
    let P : Bool → Type 0 = λ b. asks x.call ≡ b → ledger (calls (cond b (others t) (x ∷ others t))) ≡ after (ledger (calls t)) x.call in
    let go : (b : Bool) → P b = λ b. elim b as P [
      | true ↦ λ e. likeness t ∙ asked_same x.call (ledger (calls t)) e
      | false ↦ λ e. ap (λ l. after l x.call) (likeness t)
    ] in
    go (asks x.call) refl

others_right : (t : List Turn) → AllRight t → AllRight (others t)
others_right [] r = tt
others_right (x ∷ t) (r, rs) =
    let P : Bool → Type 0 = λ b. AllRight (cond b (others t) (x ∷ others t)) in
    let go : (b : Bool) → P b = λ b. elim b as P [
      | true ↦ others_right t rs
      | false ↦ (subst (λ l. Right l x.call x.answer x.buffer) (sym (likeness t)) r, others_right t rs)
    ] in
    go (asks x.call)

nil_cons : {X : Type 0} {x : X} {xs : List X} → [] ≡ x ∷ xs → ⊥
nil_cons e = let z : ◌≡◌ {A = ℕ} 0 1 = cc in omega arith

same_turns : (s t : List Turn) → AllRight s → AllRight t → calls s ≡ calls t → s ≡ t
same_turns [] [] r q e = refl
same_turns [] (y ∷ t) r q e = absurd (nil_cons e)
same_turns (x ∷ s) [] r q e = absurd (nil_cons (sym e))
same_turns (x ∷ s) (y ∷ t) (r, rs) (q, qs) e =
    let heads : x.call ≡ y.call = cc in
    let tails : calls s ≡ calls t = cc in
    let rest : s ≡ t = same_turns s t rs qs tails in
    let q' : Right (ledger (calls s)) x.call y.answer y.buffer =
    subst (λ h. Right (ledger h) x.call y.answer y.buffer) (sym tails) (subst (λ c. Right (ledger (calls t)) c y.answer y.buffer) (sym heads) q) in
    let equal = one_right (ledger (calls s)) x.call x.answer y.answer x.buffer y.buffer r q' in
    λ i. turn (heads i) (equal.0 i) (equal.1 i) ∷ rest i

alike : (s t : List Turn) (p q : Plan) → Run s p → Run t q → calls (others s) ≡ calls (others t) → (others s ≡ others t) × (view p ≡ view q)
alike s t p q r r' e = (
  same_turns (others s) (others t) (others_right s (runs_right s p r)) (others_right t (runs_right t q r')) e,
  run_keeps s p r ∙ sym (likeness s) ∙ ap ledger e ∙ likeness t ∙ sym (run_keeps t q r'),
)

pub law : Law
law = record {
  kept = run_keeps;
  declines = λ c a b x e v. let r = declined_at (was x) c a b e (right_at c a b x) v in (r.0, r.1, unchanged c a b x (ap idle r.0));
  does = does;
  seeks = seeks;
  furthers = furthers;
  what_ifs = what_ifs;
  tallies = tallies;
  saves = saves;
  alike = alike;
  opened_is_saved = opened_is_saved;
  saved_opens = saved_opens;
  find_is_first = find_is_first;
  goes_on = λ t p r c sh. goes_on p c sh;
}
