-- Which bays a row holds. Assumes nothing.
use Rattle.std.proofs.Common.{◌≡◌, ℕ, zero, suc, ◌+◌, ◌-◌, ◌*◌, ◌/◌, ◌%◌, ◌^◌, ◌<◌, ◌≤◌, true, false, not, ◌&&◌, ◌||◌, eqb, ltb, ◌⊎◌, sym, refl, ap, ◌∙◌, subst, subst₂, inl, inr, div-one, arith, pow_pos, pow_mono, shr-shr}
use native.Mathlib.Nat.{div-div-eq-div-mul, pow-succ', div-eq_of_lt}
use lib.Bits.{bit_and, bit_or, and_shr, and_mod, or_shr, or_mod}
use lib.Count.{count_trailing_zeros, under}
use Rattle.std.proofs.lemmas.Nat.{div-add-mod', mod_below}
use Rattle.std.proofs.lemmas.Bool.{eq-eqb, ne_eqb, cases_lt, cases_Bool, both_ways}
use Rattle.std.proofs.lemmas.Bool.Decides.{nat_tests}
use Rattle.graphs.specs.Rows.{bit}

pub digit_cases : (d : ℕ) → d < 2 → (d ≡ 0) ⊎ (d ≡ 1)
digit_cases d h = elim (cases_lt d 1) [ inl l ↦ inl (omega arith) | inr l ↦ inr (omega arith) ]

and_digits : (d e : ℕ) → d < 2 → e < 2 → eqb (bit_and d e) 1 ≡ (eqb d 1 && eqb e 1)
and_digits d e hd he =
    let P : ℕ → ℕ → Type 0 = λ x y. eqb (bit_and x y) 1 ≡ (eqb x 1 && eqb y 1) in
    elim (digit_cases d hd) [
      | inl z ↦ elim (digit_cases e he) [ inl y ↦ subst₂ P (sym z) (sym y) refl | inr y ↦ subst₂ P (sym z) (sym y) refl ]
      | inr z ↦ elim (digit_cases e he) [ inl y ↦ subst₂ P (sym z) (sym y) refl | inr y ↦ subst₂ P (sym z) (sym y) refl ]
    ]

pub bit_of_and : (x y c : ℕ) → bit (bit_and x y) c ≡ (bit x c && bit y c)
unfolding bit
bit_of_and x y c =
    ap (λ (n : ℕ). eqb (n % 2) 1) (and_shr x y c)
    ∙ ap (λ (n : ℕ). eqb n 1) (and_mod (x / 2 ^ c) (y / 2 ^ c) 1)
    ∙ and_digits (x / 2 ^ c % 2) (y / 2 ^ c % 2) (omega arith) (omega arith)

-- the lowest bay, and the others
pub bit_zero : (x : ℕ) → bit x 0 ≡ eqb (x % 2) 1
unfolding bit
bit_zero x = ap (λ (n : ℕ). eqb (n % 2) 1) (div-one x)

pub bit_suc : (x c : ℕ) → bit x (suc c) ≡ bit (x / 2) c
unfolding bit
bit_suc x c = ap (λ (n : ℕ). eqb (n % 2) 1) (ap (λ (n : ℕ). x / n) (pow-succ' 2 c) ∙ sym (div-div-eq-div-mul x 2 (2 ^ c)))

pub bit_none : (c : ℕ) → bit 0 c ≡ false
unfolding bit
bit_none zero = refl
bit_none (suc c) = bit_suc 0 c ∙ bit_none c

pub bit_bit : (b : ℕ) → bit (2 ^ b) b ≡ true
unfolding bit
bit_bit zero = refl
bit_bit (suc b) = bit_suc (2 ^ suc b) b ∙ ap (λ (n : ℕ). bit n b) (let e : 2 ^ suc b / 2 ≡ 2 ^ b = omega (arith, pow-succ' 2 b) in e) ∙ bit_bit b

-- 2 ^ b holds b alone
pub bit_bit_only : (b c : ℕ) → bit (2 ^ b) c ≡ true → c ≡ b
bit_bit_only zero zero h = refl
bit_bit_only (suc b) zero h =
    let z : bit (2 ^ suc b) 0 ≡ false = bit_zero (2 ^ suc b) ∙ ne_eqb (2 ^ suc b % 2) 1 (λ e. omega (arith, pow-succ' 2 b)) in
    absurd (both_ways _ z h)
bit_bit_only zero (suc c) h = absurd (both_ways _ (bit_suc (2 ^ 0) c ∙ bit_none c) h)
bit_bit_only (suc b) (suc c) h =
    ap suc (bit_bit_only b c (ap (λ (n : ℕ). bit n c) (let e : 2 ^ b ≡ 2 ^ suc b / 2 = omega (arith, pow-succ' 2 b) in e) ∙ sym (bit_suc (2 ^ suc b) c) ∙ h))

-- a row below 2 ^ n holds only bays below n
pub bit_below : (x n c : ℕ) → x < 2 ^ n → bit x c ≡ true → c < n
unfolding bit
bit_below x n c l h =
    elim (cases_lt c n) [
      | inl y ↦ y
      | inr y ↦ absurd (both_ways _ (ap (λ (m : ℕ). eqb (m % 2) 1) (div-eq_of_lt (let m : 2 ^ n ≤ 2 ^ c = pow_mono y in let r : x < 2 ^ c = omega arith in r))) h)
    ]

-- the lowest bay of a row is in it
pub bit_lowest : (k x : ℕ) → 0 < x → x < 2 ^ k → bit x (count_trailing_zeros k x) ≡ true
unfolding count_trailing_zeros
bit_lowest zero x l h = absurd (omega arith)
bit_lowest (suc k) x l h =
    elim (digit_cases (x % 2) (omega arith)) [
      | inl z ↦ ap (λ (d : ℕ). bit x (under d (count_trailing_zeros k (x / 2)))) z ∙ bit_suc x (count_trailing_zeros k (x / 2)) ∙ bit_lowest k (x / 2) (omega arith) (omega (arith, pow-succ' 2 k))
      | inr z ↦ ap (λ (d : ℕ). bit x (under d (count_trailing_zeros k (x / 2)))) z ∙ bit_zero x ∙ eq-eqb (x % 2) 1 z
    ]

pub self_below : (x : ℕ) → x < 2 ^ x
self_below zero = omega arith
self_below (suc x) = omega (arith, pow-succ' 2 x, self_below x)

-- the same where no bay of the row is at or past k
pub bit_lowest_among : (k x : ℕ) → 0 < x → ((c : ℕ) → bit x c ≡ true → c < k) → bit x (count_trailing_zeros k x) ≡ true
unfolding count_trailing_zeros
bit_lowest_among zero x l h = absurd (let n = h (count_trailing_zeros x x) (bit_lowest x x l (self_below x)) in omega arith)
bit_lowest_among (suc k) x l h =
    elim (digit_cases (x % 2) (omega arith)) [
      | inl z ↦ ap (λ (d : ℕ). bit x (under d (count_trailing_zeros k (x / 2)))) z ∙ bit_suc x (count_trailing_zeros k (x / 2)) ∙ bit_lowest_among k (x / 2) (omega arith) (λ c e. let n = h (suc c) (bit_suc x c ∙ e) in omega arith)
      | inr z ↦ ap (λ (d : ℕ). bit x (under d (count_trailing_zeros k (x / 2)))) z ∙ bit_zero x ∙ eq-eqb (x % 2) 1 z
    ]

-- a number whose bits are all below n
pub bits_below : (n x : ℕ) → ((c : ℕ) → bit x c ≡ true → c < n) → x < 2 ^ n
bits_below zero x h =
    elim (cases_lt 0 x) [
      | inl l ↦ absurd (let n = h (count_trailing_zeros x x) (bit_lowest x x l (self_below x)) in omega arith)
      | inr l ↦ omega arith
    ]
bits_below (suc n) x h =
    let t : x / 2 < 2 ^ n = bits_below n (x / 2) (λ c e. let l = h (suc c) (bit_suc x c ∙ e) in omega arith) in
    omega (arith, pow-succ' 2 n)

or_digits : (d e : ℕ) → d < 2 → e < 2 → eqb (bit_or d e) 1 ≡ (eqb d 1 || eqb e 1)
or_digits d e hd he =
    let P : ℕ → ℕ → Type 0 = λ x y. eqb (bit_or x y) 1 ≡ (eqb x 1 || eqb y 1) in
    elim (digit_cases d hd) [
      | inl z ↦ elim (digit_cases e he) [ inl y ↦ subst₂ P (sym z) (sym y) refl | inr y ↦ subst₂ P (sym z) (sym y) refl ]
      | inr z ↦ elim (digit_cases e he) [ inl y ↦ subst₂ P (sym z) (sym y) refl | inr y ↦ subst₂ P (sym z) (sym y) refl ]
    ]

pub bit_of_or : (x y c : ℕ) → bit (bit_or x y) c ≡ (bit x c || bit y c)
unfolding bit
bit_of_or x y c =
    ap (λ (n : ℕ). eqb (n % 2) 1) (or_shr x y c)
    ∙ ap (λ (n : ℕ). eqb n 1) (or_mod (x / 2 ^ c) (y / 2 ^ c) 1)
    ∙ or_digits (x / 2 ^ c % 2) (y / 2 ^ c % 2) (omega arith) (omega arith)

pub bit_one : (b c : ℕ) → bit (2 ^ b) c ≡ eqb b c
bit_one b c =
    elim (cases_Bool (bit (2 ^ b) c)) [
      | inl t ↦ t ∙ sym (eq-eqb b c (sym (bit_bit_only b c t)))
      | inr f ↦ f ∙ sym (ne_eqb b c (λ z. both_ways _ f (subst (λ (y : ℕ). bit (2 ^ b) y ≡ true) z (bit_bit b))))
    ]

pub bit_shr : (x k c : ℕ) → bit (x / 2 ^ k) c ≡ bit x (k + c)
unfolding bit
bit_shr x k c = ap (λ (n : ℕ). eqb (n % 2) 1) (shr-shr x k c)

pub bit_not : (k x c : ℕ) → x < 2 ^ k → bit ((2 ^ k - 1) - x) c ≡ (ltb c k && not (bit x c))
bit_not zero x c h = ap (λ (n : ℕ). bit n c) (let z : (2 ^ 0 - 1) - x ≡ 0 = omega arith in z) ∙ grind (arith, nat_tests, bit_none c)
bit_not (suc k) x zero h =
    bit_zero ((2 ^ suc k - 1) - x)
    ∙ elim (digit_cases (x % 2) (omega arith)) [
      | inl z ↦ let d : ((2 ^ suc k - 1) - x) % 2 ≡ 1 = omega (arith, pow-succ' 2 k, pow_pos k) in grind (arith, nat_tests, bit_zero x)
      | inr z ↦ let d : ((2 ^ suc k - 1) - x) % 2 ≡ 0 = omega (arith, pow-succ' 2 k, pow_pos k) in grind (arith, nat_tests, bit_zero x)
    ]
bit_not (suc k) x (suc c) h =
    bit_suc ((2 ^ suc k - 1) - x) c
    ∙ ap (λ (n : ℕ). bit n c) (let z : ((2 ^ suc k - 1) - x) / 2 ≡ (2 ^ k - 1) - x / 2 = omega (arith, pow-succ' 2 k, pow_pos k) in z)
    ∙ grind (arith, nat_tests, bit_not k (x / 2) c (omega (arith, pow-succ' 2 k)), bit_suc x c)

-- two rows that hold the same bays are one
pub same_rows : (k x y : ℕ) → x < 2 ^ k → y < 2 ^ k → ((c : ℕ) → bit x c ≡ bit y c) → x ≡ y
same_rows zero x y hx hy e = omega arith
same_rows (suc k) x y hx hy e =
    let half : x / 2 ≡ y / 2 = same_rows k (x / 2) (y / 2) (omega (arith, pow-succ' 2 k)) (omega (arith, pow-succ' 2 k)) (λ c. sym (bit_suc x c) ∙ e (suc c) ∙ bit_suc y c) in
    let first : eqb (x % 2) 1 ≡ eqb (y % 2) 1 = sym (bit_zero x) ∙ e 0 ∙ bit_zero y in
    let digit : x % 2 ≡ y % 2 = grind (arith, nat_tests) in
    omega arith

pub bit_past : (n b k : ℕ) → n < 2 ^ k → k ≤ b → bit n b ≡ false
unfolding bit
bit_past n b k h le =
    let p = pow_mono le in
    let lt : n < 2 ^ b = omega arith in
    let z : n / 2 ^ b ≡ 0 = div-eq_of_lt lt in
    rw z refl

pub div_none : (n k : ℕ) → n < 2 ^ k → n / 2 ^ k ≡ 0
div_none n k h = div-eq_of_lt h

pub below_none : (n k : ℕ) → n / 2 ^ k ≡ 0 → n < 2 ^ k
below_none n k e = let p = pow_pos k in omega (arith, div-add-mod' n (2 ^ k), ap (λ q. q * 2 ^ k) e, mod_below n (2 ^ k) p)
