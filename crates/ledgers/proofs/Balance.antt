-- How many pairs are struck, against the strikes and frees of the calls. Assumes nothing.
use Rattle.std.proofs.Common.{◌≡◌, ℕ, zero, suc, ◌+◌, ◌*◌, ◌<◌, Bool, true, false, cond, not, ◌&&◌, ◌||◌, eqb, List, [], ◌∷◌, Ok, Err, Result, sym, refl, ap, ◌∙◌, ap₂, ⊎_elim, suc-mul, arith}
use mathlib.Core.Path.{fun_ext}
use mathlib.Core.Bool.{or-true, or-false, and-true}
use Rattle.std.proofs.lemmas.Bool.{cases_eq, eq-eqb, ne_eqb}
use Rattle.refusals.specs.declared.Reason.TheVariants as R
use Rattle.graphs.specs.Rows.{Pairs}
use Rattle.tables.specs.Form.{Form}
use Rattle.saved.specs.declared.fault.PlanFault.{PlanFault}
use Rattle.saved.specs.Plan.{read_plan}
use Rattle.ledgers.specs.Calls.{Call, begin, «open», strike, free, fit, fit_further, seek, further, what_if, tally, save}
use Rattle.ledgers.specs.Ledger.{Ledger, no_pairs, one_pair, Verdict, accepted, declined, verdict, readable, opened, made, by_verdict, ledger}
use Rattle.ledgers.specs.Answered.{count, how_many}
use Rattle.ledgers.specs.Counts.{Counts, opened_counts, count_on, counted}
use Rattle.ledgers.proofs.Verdicts.{keeps_rule, pair_in, not_false}

-- ---- counting pairs

count_none : (n : ℕ) (f : ℕ → Bool) → ((b : ℕ) → f b ≡ false) → count n f ≡ 0
count_none zero f none = refl
count_none (suc n) f none = ap₂ (λ t k. cond t 1 0 + k) (none 0) (count_none n (λ b. f (suc b)) (λ b. none (suc b)))

pub none_many : (m n : ℕ) (r : Pairs) → ((u b : ℕ) → r u b ≡ false) → how_many m n r ≡ 0
none_many zero n r none = refl
none_many (suc m) n r none = ap₂ (λ a b. a + b) (count_none n (r 0) (none 0)) (none_many m n (λ u. r (suc u)) (λ u. none (suc u)))

-- the pairs that are in a set and those that are not
count_rest : (n : ℕ) (f : ℕ → Bool) → count n f + count n (λ b. not (f b)) ≡ n
count_rest zero f = refl
count_rest (suc n) f = go (f 0) _ _ (count_rest n (λ b. f (suc b)))
  where
    go : (t : Bool) (a c : ℕ) → a + c ≡ n → (cond t 1 0 + a) + (cond (not t) 1 0 + c) ≡ suc n
    go true a c e = omega arith
    go false a c e = omega arith

pub many_rest : (m n : ℕ) (r : Pairs) → how_many m n r + how_many m n (λ u b. not (r u b)) ≡ m * n
many_rest zero n r = omega arith
many_rest (suc m) n r = omega (arith, count_rest n (r 0), many_rest m n (λ u. r (suc u)), suc-mul m n)

-- ---- one pair more

count_more :
    (n : ℕ) (f g : ℕ → Bool) (b : ℕ) → b < n → f b ≡ false → g b ≡ true → ((c : ℕ) → (b ≡ c → ⊥) → g c ≡ f c) → count n g ≡ count n f + 1
count_more zero f g b lt fb gb same = absurd (omega arith)
count_more (suc n) f g zero lt fb gb same =
    let rest : count n (λ c. g (suc c)) ≡ count n (λ c. f (suc c)) = ap (count n) (fun_ext (λ c. same (suc c) (λ e. omega arith))) in
    ap₂ (λ t k. cond t 1 0 + k) gb rest ∙ sym (ap (λ t. (cond t 1 0 + count n (λ c. f (suc c))) + 1) fb ∙ omega arith)
count_more (suc n) f g (suc b) lt fb gb same =
    let rest = count_more n (λ c. f (suc c)) (λ c. g (suc c)) b (omega arith) fb gb (λ c ne. same (suc c) (λ e. ne (omega arith))) in
    ap₂ (λ t k. cond t 1 0 + k) (same 0 (λ e. omega arith)) rest ∙ omega arith

many_more :
    (m n : ℕ) (r q : Pairs) (u b : ℕ) → u < m → b < n → r u b ≡ false → q u b ≡ true → ((v c : ℕ) → ((u ≡ v) × (b ≡ c) → ⊥) → q v c ≡ r v c)
    → how_many m n q ≡ how_many m n r + 1
many_more zero n r q u b hu hb rb qb same = absurd (omega arith)
many_more (suc m) n r q zero b hu hb rb qb same =
    let rest : how_many m n (λ v. q (suc v)) ≡ how_many m n (λ v. r (suc v)) =
    ap (how_many m n) (fun_ext (λ v. fun_ext (λ c. same (suc v) c (λ e. let z = e.0 in omega arith)))) in
    ap₂ (λ x y. x + y) (count_more n (r 0) (q 0) b hb rb qb (λ c ne. same 0 c (λ e. ne e.1))) rest ∙ omega arith
many_more (suc m) n r q (suc u) b hu hb rb qb same =
    let top : count n (q 0) ≡ count n (r 0) = ap (count n) (fun_ext (λ c. same 0 c (λ e. let z = e.0 in omega arith))) in
    ap₂ (λ x y. x + y) top (many_more m n (λ v. r (suc v)) (λ v. q (suc v)) u b (omega arith) hb rb qb (λ v c ne. same (suc v) c (λ e. ne (let z = e.0 in omega arith, e.1)))) ∙ omega arith

here : (u b : ℕ) → one_pair u b u b ≡ true
here u b = ap₂ (λ s t. s && t) (eq-eqb u u refl) (eq-eqb b b refl)

elsewhere : (u b v c : ℕ) → ((u ≡ v) × (b ≡ c) → ⊥) → one_pair u b v c ≡ false
elsewhere u b v c ne =
    ⊎_elim (λ e. ap₂ (λ s t. s && t) (eq-eqb u v e) (ne_eqb b c (λ e'. ne (e, e')))) (λ n. ap (λ s. s && eqb b c) (ne_eqb u v n)) (cases_eq u v)

-- ---- the balance

abbrev pub Balanced : Ledger → Counts → Type 0
Balanced l k = how_many l.units l.bays l.struck + k.frees ≡ k.starts + k.strikes

opens : (l : Ledger) (k : Counts) (r : Result Form PlanFault) → readable r ≡ accepted → Balanced (opened l r) (opened_counts k r)
opens l k (Ok t) e = refl
opens l k (Err x) e = let z : ◌≡◌ {A = ℕ} 0 1 = cc in absurd (omega arith)

balanced_on : (l : Ledger) (k : Counts) (c : Call) → verdict l c ≡ accepted → Balanced l k → Balanced (made l c) (count_on k c)
balanced_on l k (begin m n) v e = ap (λ x. x + 0) (none_many m n no_pairs (λ u b. refl))
balanced_on l k («open» bs) v e = opens l k (read_plan bs 0) v
balanced_on l k (strike u b) v e =
    let p = pair_in l u b _ v in
    let out = (keeps_rule R.Standing (l.struck u b) accepted p.2).0 in
    let more = many_more l.units l.bays l.struck (λ v c. l.struck v c || one_pair u b v c) u b p.0 p.1 out
    (ap (λ t. l.struck u b || t) (here u b) ∙ or-true (l.struck u b)) (λ v c ne. ap (λ t. l.struck v c || t) (elsewhere u b v c ne) ∙ or-false (l.struck v c)) in
    omega (arith, more, e)
balanced_on l k (free u b) v e =
    let p = pair_in l u b _ v in
    let held = not_false _ (keeps_rule R.Standing (not (l.struck u b)) accepted p.2).0 in
    let more = many_more l.units l.bays (λ v c. l.struck v c && not (one_pair u b v c)) l.struck u b p.0 p.1
    (ap₂ (λ s t. s && not t) held (here u b)) held (λ v c ne. sym (ap (λ t. l.struck v c && not t) (elsewhere u b v c ne) ∙ and-true (l.struck v c))) in
    omega (arith, more, e)
balanced_on l k (fit x) v e = e
balanced_on l k (fit_further x) v e = e
balanced_on l k (seek s out) v e = e
balanced_on l k (further s out) v e = e
balanced_on l k (what_if u b s) v e = e
balanced_on l k tally v e = e
balanced_on l k (save out) v e = e

pub balanced : (h : List Call) → Balanced (ledger h) (counted h)
balanced [] = refl
balanced (c ∷ h) =
    let l = ledger h in
    let k = counted h in
    let P : Verdict → Type 0 = λ v. verdict l c ≡ v → Balanced (by_verdict v (made l c) l) (by_verdict v (count_on k c) k) in
    let go : (v : Verdict) → P v = λ v. elim v as P [ accepted ↦ λ e. balanced_on l k c e (balanced h) | declined x ↦ λ e. balanced h ] in
    go (verdict l c) refl
