-- The row of the bays that are offered. Assumes nothing.
use Rattle.std.proofs.Common.{◌≡◌, ℕ, ◌+◌, ◌-◌, ◌*◌, ◌%◌, ◌^◌, ◌<◌, ◌≤◌, Bool, true, false, not, ◌&&◌, ◌||◌, eqb, ltb, sym, ap, ◌∙◌, inl, inr, arith, pow_pos}
use lib.Bits.{bit_and}
use mir.Val.{bool_byte}
use Rattle.std.proofs.lemmas.Nat.{one_shl, pow_below}
use Rattle.std.proofs.lemmas.Bool.{cases_Bool, lt-ltb, and_left}
use Rattle.std.proofs.lemmas.Bool.Decides.{nat_tests}
use Rattle.graphs.specs.Rows.{bit}
use Rattle.graphs.proofs.Bits.{bit_of_and, bit_not, bit_none, bit_below}
use Rattle.search.specs.Walk.{offered}
use Rattle.std.proofs.Math.Bool.{and-true, and-false}

-- the first bay that is not passed over
abbrev start_of : ℕ → Bool → ℕ
start_of bound final = bound + bool_byte final

passed : (bound : ℕ) (final : Bool) (b : ℕ) → ltb b (start_of bound final) ≡ (ltb b bound || eqb b bound && final)
passed bound true b = grind (arith, nat_tests)
passed bound false b = grind (arith, nat_tests)

module _ (row bound : ℕ) (final : Bool) (fits : row < 2 ^ 64) where
  abbrev from : ℕ
  from = start_of bound final

  offer_is : (b : ℕ) (x : Bool) → (bit row b ≡ true → x ≡ not (ltb b from)) → (bit row b && x) ≡ offered row true bound final b
  offer_is b x h =
      elim (cases_Bool (bit row b)) [
        | inl t ↦ ap (λ (y : Bool). bit row b && y) (h t ∙ ap not (passed bound final b))
        | inr f ↦ and_left (bit row b) x f ∙ sym (and_left (bit row b) (not (ltb b bound || eqb b bound && final)) f)
      ]

  pub offers_some : bound + bool_byte final < 64 → (b : ℕ) → bit (bit_and row (18446744073709551615 - ((1 * 2 ^ (bound + bool_byte final)) % 18446744073709551616 - 1))) b ≡ offered row true bound final b
  offers_some l b =
      let low : ℕ = (1 * 2 ^ from) % 18446744073709551616 - 1 in
      let one : (1 * 2 ^ from) % 18446744073709551616 ≡ 2 ^ from = one_shl from 64 l in
      let less : 2 ^ from < 2 ^ 64 = pow_below from 64 l in
      let lows : bit low b ≡ ltb b from =
      ap (λ (n : ℕ). bit n b) (let z : low ≡ (2 ^ from - 1) - 0 = omega arith in z)
      ∙ bit_not from 0 b (pow_pos from) ∙ ap (λ (t : Bool). ltb b from && not t) (bit_none b) ∙ and-true (ltb b from) in
      bit_of_and row (18446744073709551615 - low) b
      ∙ offer_is b (bit (18446744073709551615 - low) b)
      (λ t. let lb : b < 64 = bit_below row 64 b fits t in
      bit_not 64 low b (omega arith) ∙ ap (λ (y : Bool). y && not (bit low b)) (lt-ltb b 64 lb) ∙ ap not lows)

  pub offers_none : 64 ≤ bound + bool_byte final → (b : ℕ) → bit 0 b ≡ offered row true bound final b
  offers_none l b =
      bit_none b ∙ sym (and-false (bit row b))
      ∙ offer_is b false (λ t. let lb : b < 64 = bit_below row 64 b fits t in sym (ap not (lt-ltb b from (omega arith))))
