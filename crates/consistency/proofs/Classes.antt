-- Classes of units by their joints to and from one unit. Assumes nothing.
use Rattle.std.proofs.Common.{◌≡◌, ℕ, ◌-◌, ◌^◌, ◌<◌, Bool, true, false, cond, not, ◌&&◌, sym, refl, ap, ◌∙◌, ap₂, inl, inr}
use lib.Bits.{bit_and}
use Rattle.std.proofs.lemmas.Bool.{cases_lt}
use Rattle.graphs.specs.Rows.{bit}
use Rattle.graphs.proofs.Bits.{bit_of_and, bit_past}
use Rattle.placements.proofs.Masks.{bit_inverse}

pub chosen : (t : Bool) (x row u : ℕ) → t ≡ true → x ≡ row → bit x u ≡ cond t (bit row u) (not (bit row u))
chosen t x row u e is = ap (λ (y : ℕ). bit y u) is ∙ sym (ap (λ (s : Bool). cond s (bit row u) (not (bit row u))) e)

pub left_out : (t : Bool) (x row u : ℕ) → row < 2 ^ 64 → u < 64 → t ≡ false → x ≡ 18446744073709551615 - row → bit x u ≡ cond t (bit row u) (not (bit row u))
left_out t x row u h l e is = ap (λ (y : ℕ). bit y u) is ∙ bit_inverse row u h l ∙ sym (ap (λ (s : Bool). cond s (bit row u) (not (bit row u))) e)

regroup : (o s t x y : Bool) → s ≡ x → t ≡ y → ((o && s) && t) ≡ (o && (x && y))
regroup true s t x y e f = ap₂ (λ (p q : Bool). p && q) e f
regroup false s t x y e f = refl

pub class_bits : (others first second : ℕ) (out back : Bool) (from to : ℕ) → others < 2 ^ 64
    → ((u : ℕ) → u < 64 → bit first u ≡ cond out (bit from u) (not (bit from u)))
    → ((u : ℕ) → u < 64 → bit second u ≡ cond back (bit to u) (not (bit to u)))
    → (u : ℕ) → bit (bit_and (bit_and others first) second) u ≡ (bit others u && (cond out (bit from u) (not (bit from u)) && cond back (bit to u) (not (bit to u))))
class_bits others first second out back from to h f s u =
    bit_of_and (bit_and others first) second u ∙ ap (λ (t : Bool). t && bit second u) (bit_of_and others first u)
    ∙ elim (cases_lt u 64) [
      | inl l ↦ regroup (bit others u) (bit first u) (bit second u) (cond out (bit from u) (not (bit from u))) (cond back (bit to u) (not (bit to u))) (f u l) (s u l)
      | inr l ↦
          let z : bit others u ≡ false = bit_past others u 64 h l in
          ap (λ (t : Bool). (t && bit first u) && bit second u) z
          ∙ sym (ap (λ (t : Bool). t && (cond out (bit from u) (not (bit from u)) && cond back (bit to u) (not (bit to u)))) z)
    ]
