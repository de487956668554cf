-- The row of the bays that agree with one bay, made by the operators on bits. Assumes nothing.
use Rattle.std.proofs.Common.{◌≡◌, ℕ, ◌-◌, ◌*◌, ◌/◌, ◌%◌, ◌^◌, ◌<◌, ◌≤◌, Bool, true, false, not, ◌&&◌, eqb, ltb, sym, ap, ◌∙◌, ap₂, inl, inr, arith}
use lib.Bits.{bit_and}
use Rattle.std.proofs.lemmas.Nat.{one_shl}
use Rattle.std.proofs.lemmas.Bool.Decides.{nat_tests}
use Rattle.std.proofs.lemmas.Bool.{cases_lt, lt-ltb, le-ltb, ne_eqb}
use Rattle.graphs.specs.Rows.{bit, row_of}
use Rattle.graphs.specs.Graph.{Graph}
use Rattle.graphs.proofs.Bits.{bit_of_and, bit_not, bit_one, bit_none}
use Rattle.graphs.proofs.Rows.{bit_row_of, bit_all, row_is}
use Rattle.placements.specs.Agreement.{half, agrees_if}

eqb_flip : (k c : ℕ) → eqb k c ≡ eqb c k
eqb_flip k c = grind (arith, nat_tests)

-- all bits of a number of 64 bits
pub bit_full : (k : ℕ) → k < 64 → bit 18446744073709551615 k ≡ true
bit_full k l = bit_not 64 0 k (omega arith) ∙ ap (λ (t : Bool). t && not (bit 0 k)) (lt-ltb k 64 l) ∙ ap not (bit_none k)

pub bit_inverse : (x k : ℕ) → x < 2 ^ 64 → k < 64 → bit (18446744073709551615 - x) k ≡ not (bit x k)
bit_inverse x k h l = bit_not 64 x k h ∙ ap (λ (t : Bool). t && not (bit x k)) (lt-ltb k 64 l)

-- the bays below n but c
pub others_low : (n c : ℕ) → n ≤ 64 → c < 64 → (k : ℕ)
    → bit (bit_and (18446744073709551615 / 2 ^ (64 - n)) (18446744073709551615 - (1 * 2 ^ c) % 18446744073709551616)) k ≡ (ltb k n && not (eqb k c))
others_low n c l h k =
    let one : (1 * 2 ^ c) % 18446744073709551616 ≡ 2 ^ c = one_shl c 64 h in
    bit_of_and (18446744073709551615 / 2 ^ (64 - n)) (18446744073709551615 - (1 * 2 ^ c) % 18446744073709551616) k
    ∙ ap (λ (t : Bool). t && bit (18446744073709551615 - (1 * 2 ^ c) % 18446744073709551616) k) (bit_all n k l)
    ∙ elim (cases_lt k n) [
      | inl z ↦ ap (λ (t : Bool). ltb k n && t)
          (bit_inverse ((1 * 2 ^ c) % 18446744073709551616) k (omega arith) (omega arith)
          ∙ ap not (ap (λ (x : ℕ). bit x k) one ∙ bit_one c k ∙ eqb_flip c k))
      | inr z ↦ ap (λ (t : Bool). t && bit (18446744073709551615 - (1 * 2 ^ c) % 18446744073709551616) k) (le-ltb k n z)
          ∙ sym (ap (λ (t : Bool). t && not (eqb k c)) (le-ltb k n z))
    ]

pub others_high : (n c : ℕ) → n ≤ 64 → 64 ≤ c → (k : ℕ) → bit (18446744073709551615 / 2 ^ (64 - n)) k ≡ (ltb k n && not (eqb k c))
others_high n c l h k =
    bit_all n k l
    ∙ elim (cases_lt k n) [
      | inl z ↦ lt-ltb k n z ∙ sym (ap₂ (λ (s t : Bool). s && not t) (lt-ltb k n z) (ne_eqb k c (λ e. omega arith)))
      | inr z ↦ le-ltb k n z ∙ sym (ap (λ (t : Bool). t && not (eqb k c)) (le-ltb k n z))
    ]

both : (o n s t u v : Bool) → o ≡ (true && n) → s ≡ u → t ≡ v → ((o && s) && t) ≡ (true && (n && (u && v)))
both o true s t u v e f h = ap₂ (λ (x y : Bool). (x && y) && t) e f ∙ ap (λ (y : Bool). u && y) h
both o false s t u v e f h = ap (λ (x : Bool). (x && s) && t) e

none : (o n s t w : Bool) → o ≡ (false && n) → ((o && s) && t) ≡ (false && w)
none o n s t w e = ap (λ (x : Bool). (x && s) && t) e

-- what the three parts leave together
pub agreeing_row : (g : Graph) → g.count ≤ 64 → (out back strict : Bool) (c others x y : ℕ)
    → ((k : ℕ) → bit others k ≡ (ltb k g.count && not (eqb k c)))
    → ((k : ℕ) → k < 64 → bit x k ≡ half strict out (bit (row_of g.count (λ b. g.joined b c)) k))
    → ((k : ℕ) → k < 64 → bit y k ≡ half strict back (bit (row_of g.count (λ b. g.joined c b)) k))
    → bit_and (bit_and others x) y ≡ row_of g.count (λ b. agrees_if g out back strict b c)
agreeing_row g few out back strict c others x y eo ex ey =
    row_is g.count (bit_and (bit_and others x) y) (λ b. agrees_if g out back strict b c)
    (λ k. bit_of_and (bit_and others x) y k ∙ ap (λ (t : Bool). t && bit y k) (bit_of_and others x k)
    ∙ elim (cases_lt k g.count) [
      | inl z ↦
          both (bit others k) (not (eqb k c)) (bit x k) (bit y k) (half strict out (g.joined k c)) (half strict back (g.joined c k))
          (eo k ∙ ap (λ (t : Bool). t && not (eqb k c)) (lt-ltb k g.count z))
          (ex k (omega arith) ∙ ap (half strict out) (within (λ b. g.joined b c) k z))
          (ey k (omega arith) ∙ ap (half strict back) (within (λ b. g.joined c b) k z))
          ∙ ap (λ (t : Bool). t && agrees_if g out back strict k c) (sym (lt-ltb k g.count z))
      | inr z ↦
          none (bit others k) (not (eqb k c)) (bit x k) (bit y k) (agrees_if g out back strict k c)
          (eo k ∙ ap (λ (t : Bool). t && not (eqb k c)) (le-ltb k g.count z))
          ∙ ap (λ (t : Bool). t && agrees_if g out back strict k c) (sym (le-ltb k g.count z))
    ])
  where
    within : (p : ℕ → Bool) (k : ℕ) → k < g.count → bit (row_of g.count p) k ≡ p k
    within p k z = bit_row_of g.count p k ∙ ap (λ (t : Bool). t && p k) (lt-ltb k g.count z)
