-- Pairs struck, freed and counted. Assumes nothing.
use Rattle.std.proofs.Common.{◌≡◌, ℕ, zero, suc, ◌+◌, ◌-◌, ◌*◌, ◌/◌, ◌%◌, ◌^◌, ◌<◌, ◌≤◌, Bool, true, false, cond, not, ◌&&◌, ◌||◌, eqb, List, [], ◌∷◌, length, get_or, set, sum_by, sym, refl, ap, ◌∙◌, subst, ap₂, ⊎_elim, suc-mul, pow-suc, arith}
use mathlib.Core.Path.{fun_ext}
use mathlib.Core.Bool.{or-false, and-true}
use lib.Bits.{bit_or, bit_and}
use lib.Count.{ones, ones-le, ones_step}
use Rattle.std.proofs.lemmas.List.Sums.{sum_by-cons}
use Rattle.std.proofs.lemmas.List.{get_or-set_same, get_or-set_other}
use Rattle.std.proofs.lemmas.Nat.{one_shl}
use Rattle.std.proofs.lemmas.Bool.{cases_eq, eq-eqb, ne_eqb, cases_Bool, eqb-true, eqb-false}
use Rattle.graphs.specs.Rows.{bit, pairs}
use Rattle.graphs.proofs.Bits.{bit_of_or, bit_one, bit_none, bit_suc, bit_zero}
use Rattle.graphs.proofs.PairSets.{bit_without}
use Rattle.tables.specs.Shape.{Inside, Blank}
use Rattle.ledgers.specs.Calls.{strike, free, tally, done, number}
use Rattle.ledgers.specs.Ledger.{one_pair, accepted, verdict}
use Rattle.ledgers.specs.Answered.{count, how_many}
use Rattle.ledgers.proofs.Balance.{none_many, many_rest}
use Rattle.plans.specs.Step.{fitting, shortened, view, Step, turn}
use Rattle.plans.specs.declared.plan.Plan.{Plan}
use Rattle.plans.proofs.Steps.{accepted_step, done_step, same_self, of}

-- ---- one row of a table put anew

pub put_inside : (n : ℕ) (rows : List ℕ) (u x : ℕ) → u < length rows → x < 2 ^ n → Inside n rows → Inside n (set rows u x)
put_inside n rows u x lt low w v =
    ⊎_elim (λ e. let P : ℕ → Type 0 = λ y. y < 2 ^ n in subst P (sym (ap (λ k. get_or (set rows u x) k 0) e ∙ get_or-set_same rows u x 0 lt)) low)
    (λ ne. let P : ℕ → Type 0 = λ y. y < 2 ^ n in subst P (sym (get_or-set_other rows u v x 0 ne)) (w v)) (cases_eq v u)

pub put_blank : (m : ℕ) (rows : List ℕ) (u x : ℕ) → u < m → Blank m rows → Blank m (set rows u x)
put_blank m rows u x lt blank v above = get_or-set_other rows u v x 0 (λ e. omega arith) ∙ blank v above

-- the pairs of a table with the row of u put anew, which differs from the old one at the bay b only
changed :
    (rows : List ℕ) (u b x : ℕ) (F : Bool → Bool → Bool) → u < length rows → ((s : Bool) → F s false ≡ s)
    → ((c : ℕ) → bit x c ≡ F (bit (get_or rows u 0) c) (eqb b c)) → pairs (set rows u x) ≡ (λ v c. F (pairs rows v c) (one_pair u b v c))
changed rows u b x F lt keeps at =
    fun_ext
    (λ v. fun_ext (λ c.
    let Goal : ℕ → Bool → Type 0 = λ w t. bit (get_or (set rows u x) w 0) c ≡ F (bit (get_or rows w 0) c) (t && eqb b c) in
    ⊎_elim
    (λ e.
    let here : Goal u true = ap (λ y. bit y c) (get_or-set_same rows u x 0 lt) ∙ at c in
    let there : Goal v true = subst (λ w. Goal w true) e here in
    subst (Goal v) (sym (eq-eqb u v e)) there)
    (λ ne.
    let away : Goal v false = ap (λ y. bit y c) (get_or-set_other rows u v x 0 (λ e. ne (sym e))) ∙ sym (keeps (bit (get_or rows v 0) c)) in
    subst (Goal v) (sym (ne_eqb u v ne)) away) (cases_eq u v)))

abbrev one_bay : ℕ → ℕ
one_bay b = (1 * 2 ^ b) % 18446744073709551616

pub strike_step :
    (p q : Plan) (u b row : ℕ) → verdict (view p) (strike u b) ≡ accepted → b < p.bays → u < length p.struck → row ≡ get_or p.struck u 0
    → q.units ≡ p.units → q.bays ≡ p.bays → q.struck ≡ set p.struck u (bit_or row (one_bay b)) → q.fitted ≡ p.fitted → q.last ≡ p.last → Step p (turn (strike u b) done []) q
strike_step p q u b row is hb lt at eu eb es ef el =
    let l64 : b < 64 = (let f = p.few_bays in omega arith) in
    let now : pairs q.struck ≡ (λ v c. pairs p.struck v c || one_pair u b v c) =
    ap pairs es ∙ changed p.struck u b (bit_or row (one_bay b)) (λ s t. s || t) lt or-false
    (λ c. bit_of_or row (one_bay b) c ∙ ap₂ (λ x y. bit x c || y) at (ap (λ x. bit x c) (one_shl b 64 l64) ∙ bit_one b c)) in
    done_step p q (strike u b) is
    (λ i. of (eu i) (eb i) (now i) (fitting (ef i)) (shortened (eu i) (el i)))
    (refl, refl)

pub free_step :
    (p q : Plan) (u b row : ℕ) → verdict (view p) (free u b) ≡ accepted → b < p.bays → u < length p.struck → row < 2 ^ 64 → row ≡ get_or p.struck u 0
    → q.units ≡ p.units → q.bays ≡ p.bays → q.struck ≡ set p.struck u (bit_and row (18446744073709551615 - one_bay b)) → q.fitted ≡ p.fitted → q.last ≡ p.last → Step p (turn (free u b) done []) q
free_step p q u b row is hb lt low at eu eb es ef el =
    let l64 : b < 64 = (let f = p.few_bays in omega arith) in
    let now : pairs q.struck ≡ (λ v c. pairs p.struck v c && not (one_pair u b v c)) =
    ap pairs es ∙ changed p.struck u b (bit_and row (18446744073709551615 - one_bay b)) (λ s t. s && not t) lt and-true
    (λ c. bit_without row (one_bay b) c low (omega arith) ∙ ap₂ (λ x y. bit x c && not y) at (ap (λ x. bit x c) (one_shl b 64 l64) ∙ bit_one b c)) in
    done_step p q (free u b) is
    (λ i. of (eu i) (eb i) (now i) (fitting (ef i)) (shortened (eu i) (el i)))
    (refl, refl)

-- ---- how many pairs a table has

ones_zero : ones 0 ≡ 0
ones_zero = omega (arith, ones-le 0 0 (omega arith))

few : (m n : ℕ) (rows : List ℕ) → Inside n rows → Blank m rows → sum_by ones rows ≤ m * n
few m n [] w z = omega arith
few zero n (x ∷ xs) w z =
    let none : x ≡ 0 = z 0 (omega arith) in
    let rest = few zero n xs (λ u. w (suc u)) (λ u h. z (suc u) (omega arith)) in
    omega (arith, sum_by-cons ones x xs, ap ones none ∙ ones_zero, rest)
few (suc m) n (x ∷ xs) w z =
    let rest = few m n xs (λ u. w (suc u)) (λ u h. z (suc u) (omega arith)) in
    omega (arith, sum_by-cons ones x xs, ones-le n x (w 0), rest, suc-mul m n)

pub struck_few : (p : Plan) → sum_by ones p.struck ≤ p.units * p.bays
struck_few p = few p.units p.bays p.struck p.inside p.blank

low_digit : (x : ℕ) → x % 2 ≡ cond (bit x 0) 1 0
low_digit x =
    ⊎_elim (λ e. eqb-true (x % 2) 1 (sym (bit_zero x) ∙ e) ∙ sym (ap (λ t. cond t 1 0) e))
    (λ e. (let n = eqb-false (x % 2) 1 (sym (bit_zero x) ∙ e) in let z : x % 2 ≡ 0 = omega arith in z) ∙ sym (ap (λ t. cond t 1 0) e)) (cases_Bool (bit x 0))

ones_count : (n x : ℕ) → x < 2 ^ n → ones x ≡ count n (bit x)
ones_count zero x lt = let z : x ≡ 0 = omega arith in ap ones z ∙ ones_zero
ones_count (suc n) x lt =
    let half : x / 2 < 2 ^ n = omega (arith, pow-suc 2 n) in
    let rest : count n (bit (x / 2)) ≡ count n (λ b. bit x (suc b)) = ap (count n) (fun_ext (λ b. sym (bit_suc x b))) in
    ones_step x ∙ ap₂ (λ a b. a + b) (low_digit x) (ones_count n (x / 2) half ∙ rest)

rows_count : (m n : ℕ) (rows : List ℕ) → Inside n rows → Blank m rows → sum_by ones rows ≡ how_many m n (pairs rows)
rows_count m n [] w z = sym (none_many m n (pairs []) (λ u b. bit_none b))
rows_count zero n (x ∷ xs) w z = omega (arith, few zero n (x ∷ xs) w z)
rows_count (suc m) n (x ∷ xs) w z =
    sum_by-cons ones x xs ∙ ap₂ (λ a b. a + b) (ones_count n x (w 0)) (rows_count m n xs (λ u. w (suc u)) (λ u h. z (suc u) (omega arith)))

pub tally_step : (p : Plan) (k : ℕ) → k ≡ p.units * p.bays - sum_by ones p.struck → Step p (turn tally (number k) []) p
tally_step p k e =
    let all = many_rest p.units p.bays (pairs p.struck) in
    let struck = rows_count p.units p.bays p.struck p.inside p.blank in
    accepted_step p p tally (number k) [] refl refl (ap number (omega (arith, e, all, struck)), refl) (λ _. same_self p)
