-- Rows given by a test, and rows that a loop over the nodes builds. Assumes nothing.
use Rattle.std.proofs.Common.{◌≡◌, ℕ, zero, suc, ◌+◌, ◌-◌, ◌*◌, ◌/◌, ◌%◌, ◌^◌, ◌<◌, ◌≤◌, Bool, true, false, cond, not, ◌&&◌, ◌||◌, eqb, ltb, sym, ap, ◌∙◌, inl, inr, add-zero, arith, pow_mono}
use native.Mathlib.Nat.{pow-succ'}
use lib.Bits.{bit_and, bit_or, and_le_l}
use lib.Pow.{shr_le}
use Rattle.std.proofs.lemmas.Nat.{one_shl}
use Rattle.std.proofs.lemmas.Bool.{and_parts, ltb-true, eq-eqb, ne_eqb, cases_eq, le-ltb, lt-ltb}
use Rattle.std.proofs.lemmas.Bool.Decides.{nat_tests}
use Rattle.graphs.specs.Rows.{bit, row_from, row_of}
use Rattle.graphs.proofs.Bits.{bit_of_and, bit_of_or, bit_one, bit_shr, bit_not, bit_none, bit_zero, bit_suc, bits_below, same_rows}

bool_digit : (t : Bool) (y : ℕ) → eqb ((cond t 1 0 + 2 * y) % 2) 1 ≡ t
bool_digit true y = eq-eqb ((1 + 2 * y) % 2) 1 (omega arith)
bool_digit false y = ne_eqb ((0 + 2 * y) % 2) 1 (λ e. omega arith)

bool_half : (t : Bool) (y : ℕ) → (cond t 1 0 + 2 * y) / 2 ≡ y
bool_half true y = omega arith
bool_half false y = omega arith

-- a row holds the bays that pass its test
pub bit_row_from : (b : ℕ) (p : ℕ → Bool) (k c : ℕ) → bit (row_from b p k) c ≡ (ltb c k && p (b + c))
unfolding row_from
bit_row_from b p zero c = bit_none c ∙ sym (ap (λ (t : Bool). t && p (b + c)) (le-ltb c 0 (omega arith)))
bit_row_from b p (suc k) zero =
    bit_zero (row_from b p (suc k)) ∙ bool_digit (p b) (row_from (suc b) p k)
    ∙ ap p (sym (add-zero b)) ∙ sym (ap (λ (t : Bool). t && p (b + 0)) (lt-ltb 0 (suc k) (omega arith)))
bit_row_from b p (suc k) (suc c) =
    bit_suc (row_from b p (suc k)) c ∙ ap (λ (n : ℕ). bit n c) (bool_half (p b) (row_from (suc b) p k))
    ∙ bit_row_from (suc b) p k c
    ∙ grind (arith, nat_tests, ap p (let e : suc b + c ≡ b + suc c = omega arith in e))

pub row_from_lt : (b : ℕ) (p : ℕ → Bool) (k : ℕ) → row_from b p k < 2 ^ k
unfolding row_from
row_from_lt b p zero = omega arith
row_from_lt b p (suc k) = omega (arith, pow-succ' 2 k, row_from_lt (suc b) p k, bit_le (p b))
  where
    bit_le : (t : Bool) → cond t 1 0 ≤ 1
    bit_le true = omega arith
    bit_le false = omega arith

-- a number of 64 bits that holds the bays below n that pass
pub is_row_of : (n x : ℕ) (p : ℕ → Bool) → n ≤ 64 → x < 2 ^ 64 → ((c : ℕ) → bit x c ≡ (ltb c n && p c)) → x ≡ row_of n p
is_row_of n x p l h e =
    same_rows 64 x (row_of n p) h (let a = row_from_lt 0 p n in let m : 2 ^ n ≤ 2 ^ 64 = pow_mono l in omega arith)
    (λ c. e c ∙ ap (λ (k : ℕ). ltb c n && p k) (let z : c ≡ 0 + c = omega arith in z) ∙ sym (bit_row_from 0 p n c))

pub bit_all : (n c : ℕ) → n ≤ 64 → bit (18446744073709551615 / 2 ^ (64 - n)) c ≡ ltb c n
bit_all n c l =
    bit_shr 18446744073709551615 (64 - n) c
    ∙ bit_not 64 0 (64 - n + c) (omega arith)
    ∙ ap (λ (t : Bool). ltb (64 - n + c) 64 && not t) (bit_none (64 - n + c))
    ∙ grind (arith, nat_tests)

-- all bays below n but those of o
pub all_but : (n o : ℕ) (p : ℕ → Bool) → n ≤ 64 → o < 2 ^ 64 → ((c : ℕ) → bit o c ≡ not (p c)) → bit_and (18446744073709551615 / 2 ^ (64 - n)) (18446744073709551615 - o) ≡ row_of n p
all_but n o p l h e =
    is_row_of n (bit_and (18446744073709551615 / 2 ^ (64 - n)) (18446744073709551615 - o)) p l
    (let a = and_le_l (18446744073709551615 / 2 ^ (64 - n)) (18446744073709551615 - o) in let s = shr_le 18446744073709551615 (64 - n) in omega arith)
    (λ c. bit_of_and (18446744073709551615 / 2 ^ (64 - n)) (18446744073709551615 - o) c
    ∙ ap (λ (t : Bool). t && bit (18446744073709551615 - o) c) (bit_all n c l)
    ∙ ap (λ (t : Bool). ltb c n && t) (bit_not 64 o c h)
    ∙ grind (arith, nat_tests, e c))

pub bit_row_of : (n : ℕ) (p : ℕ → Bool) (c : ℕ) → bit (row_of n p) c ≡ (ltb c n && p c)
bit_row_of n p c = bit_row_from 0 p n c ∙ ap (λ (k : ℕ). ltb c n && p k) (let z : 0 + c ≡ c = omega arith in z)

-- a number that holds the nodes below n that pass
pub row_is : (n x : ℕ) (p : ℕ → Bool) → ((c : ℕ) → bit x c ≡ (ltb c n && p c)) → x ≡ row_of n p
row_is n x p e =
    same_rows n x (row_of n p)
    (bits_below n x (λ c t. ltb-true c n (and_parts (ltb c n) (p c) (sym (e c) ∙ t)).0))
    (row_from_lt 0 p n)
    (λ c. e c ∙ sym (bit_row_of n p c))

-- x holds the nodes below b that pass
abbrev pub Upto : ℕ → (ℕ → Bool) → ℕ → Type 0
Upto b p x = (k : ℕ) → bit x k ≡ (ltb k b && p k)

pub upto_none : (p : ℕ → Bool) → Upto 0 p 0
upto_none p k = bit_none k ∙ sym (ap (λ (t : Bool). t && p k) (le-ltb k 0 (omega arith)))

-- a row and one node more
pub put_on : (x b k : ℕ) → b < 64 → bit (bit_or x ((1 * 2 ^ b) % 18446744073709551616)) k ≡ (bit x k || eqb b k)
put_on x b k l = bit_of_or x ((1 * 2 ^ b) % 18446744073709551616) k ∙ ap (λ (t : Bool). bit x k || t) (ap (λ (y : ℕ). bit y k) (one_shl b 64 l) ∙ bit_one b k)

pub upto_set : (p : ℕ → Bool) (x b : ℕ) → b < 64 → Upto b p x → p b ≡ true → Upto (b + 1) p (bit_or x ((1 * 2 ^ b) % 18446744073709551616))
upto_set p x b l h e k =
    put_on x b k l
    ∙ elim (cases_eq b k) [
      | inl z ↦ let f : p k ≡ true = ap p (sym z) ∙ e in grind (arith, nat_tests, h k)
      | inr ne ↦ grind (arith, nat_tests, h k)
    ]

pub upto_pass : (p : ℕ → Bool) (x b : ℕ) → Upto b p x → p b ≡ false → Upto (b + 1) p x
upto_pass p x b h e k =
    elim (cases_eq b k) [
      | inl z ↦ let f : p k ≡ false = ap p (sym z) ∙ e in grind (arith, nat_tests, h k)
      | inr ne ↦ grind (arith, nat_tests, h k)
    ]
