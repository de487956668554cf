-- From what a call does to the record to its step. Assumes nothing.
use Rattle.std.proofs.Common.{◌≡◌, ℕ, ◌<◌, ◌≤◌, true, false, List, [], ◌∷◌, length, get_or, take, replicate, Option, sym, refl, ap, ◌∙◌, subst, ⊎_elim, arith}
use mathlib.Core.Path.{fun_ext}
use mathlib.Core.Bool.{false≢true}
use Rattle.std.proofs.lemmas.List.{get_or-replicate, length-replicate, get_or_past, get_or-take, length-take}
use Rattle.std.proofs.lemmas.Bool.{cases_lt, le-ltb, or_from, cond-false}
use Rattle.graphs.specs.Rows.{bit, Pairs, pairs}
use Rattle.graphs.proofs.Bits.{bit_none}
use Rattle.ledgers.specs.Calls.{Call, begin, Refusal, Answer, done, refused, buffer_of}
use Rattle.ledgers.specs.Ledger.{Ledger, Fitting, begun, no_pairs, accepted, declined, verdict, made, by_verdict}
use Rattle.ledgers.specs.Answered.{Answered, Judged}
use Rattle.plans.specs.Bounds.{Low}
use Rattle.plans.specs.Step.{fitting, shortened, view, Same, Started, Step, Fresh, turn, idle}
use Rattle.plans.specs.declared.plan.Plan.{Plan}

pub same_self : (p : Plan) → Same p p
same_self p = record { units = refl; bays = refl; struck = refl; fitted = refl; last = refl }

abbrev pub of : ℕ → ℕ → Pairs → Fitting → Option (List ℕ) → Ledger
of u b s f o = record { units = u; bays = b; struck = s; fitted = f; last = o }

pub same_view : (p q : Plan) → Same q p → view q ≡ view p
same_view p q s = λ i. of (s.units i) (s.bays i) (pairs (s.struck i)) (fitting (s.fitted i)) (shortened (s.units i) (s.last i))

-- a call that declines
pub declined_step :
    (p : Plan) (c : Call) (e : Refusal) (a : Answer) (b : List ℕ) → verdict (view p) c ≡ declined e → a ≡ refused e → b ≡ buffer_of c → Step p (turn c a b) p
declined_step p c e a b is ea eb = record {
  right = subst (λ v. Judged v (λ e. (a ≡ refused e) × (b ≡ buffer_of c)) (Answered (view p) c a b)) (sym is) (ea, eb);
  holds = sym (ap (λ v. by_verdict v (made (view p) c) (view p)) is);
  same = λ _. same_self p;
}

-- an accepted call
pub accepted_step :
    (p q : Plan) (c : Call) (a : Answer) (b : List ℕ) → verdict (view p) c ≡ accepted → view q ≡ made (view p) c
    → Answered (view p) c a b → (idle a ≡ true → Same q p) → Step p (turn c a b) q
accepted_step p q c a b is seen answered same = record {
  right = subst (λ v. Judged v (λ e. (a ≡ refused e) × (b ≡ buffer_of c)) (Answered (view p) c a b)) (sym is) answered;
  holds = seen ∙ sym (ap (λ v. by_verdict v (made (view p) c) (view p)) is);
  same = same;
}

-- a call that is done
pub done_step :
    (p q : Plan) (c : Call) → verdict (view p) c ≡ accepted → view q ≡ made (view p) c → Answered (view p) c done [] → Step p (turn c done []) q
done_step p q c is seen answered = accepted_step p q c done [] is seen answered (λ e. absurd (false≢true e))

-- the front of a list of numbers below n
pub low_take : (m n : ℕ) (w : List ℕ) → 0 < n → Low n w → Low n (take m w)
low_take m n w pos low u =
    let P : ℕ → Type 0 = λ x. x < n in
    ⊎_elim (λ lt. subst P (sym (get_or-take m w u 0 lt)) (low u))
    (λ ge. subst P (sym (get_or_past (take m w) u 0 (let s = length-take m w in omega arith))) pos) (cases_lt u m)

-- ---- no pair is struck

abbrev pub blank_rows : List ℕ
blank_rows = 0 ∷ 0 ∷ 0 ∷ 0 ∷ 0 ∷ 0 ∷ 0 ∷ 0 ∷ 0 ∷ 0 ∷ 0 ∷ 0 ∷ 0 ∷ 0 ∷ 0 ∷ 0 ∷ 0 ∷ 0 ∷ 0 ∷ 0 ∷ 0 ∷ 0 ∷ 0 ∷ 0 ∷ []

pub zeros : (k u : ℕ) → ◌≡◌ {A = ℕ} (get_or (replicate k 0) u 0) 0
zeros k u = ⊎_elim (λ lt. get_or-replicate k u 0 0 lt) (λ ge. let past : length (replicate {A = ℕ} k 0) ≤ u = rw length-replicate ge in get_or_past (replicate k 0) u 0 past) (cases_lt u k)

pub blank_pairs : (u b : ℕ) → pairs blank_rows u b ≡ false
blank_pairs u b = ap (λ x. bit x b) (zeros 24 u) ∙ bit_none b

view_begun : (q : Plan) (m n : ℕ) → Started m n blank_rows q → view q ≡ begun m n no_pairs
view_begun q m n s =
    λ i. of (s.units i) (s.bays i) ((ap pairs s.struck ∙ fun_ext (λ u. fun_ext (λ b. blank_pairs u b))) i) (fitting (s.fitted i)) (shortened (s.units i) (s.last i))

pub begin_step : (p q : Plan) (m n : ℕ) → 1 ≤ m → m ≤ 24 → 1 ≤ n → n ≤ 64 → Started m n blank_rows q → Step p (turn (begin m n) done []) q
begin_step p q m n m1 m2 n1 n2 s =
    done_step p q (begin m n) (cond-false _ _ _ (or_from _ _ (le-ltb m 1 m1) (or_from _ _ (le-ltb 24 m m2) (or_from _ _ (le-ltb n 1 n1) (le-ltb 64 n n2)))))
    (view_begun q m n s) (refl, refl)

pub new_fresh : (q : Plan) → Started 1 1 blank_rows q → Fresh q
new_fresh q s = record { holds = view_begun q 1 1 s }
