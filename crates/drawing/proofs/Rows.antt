-- The size of a row as one node more is drawn. Assumes nothing.
use Rattle.std.proofs.Common.{◌≡◌, ℕ, suc, ◌+◌, ◌*◌, ◌%◌, ◌^◌, ◌<◌, ap, ◌∙◌, arith}
use native.Mathlib.Nat.{pow-succ'}
use lib.Bits.{bit_or}
use Rattle.std.proofs.lemmas.Nat.{one_shl, or_lt}

twice : (b : ℕ) → 2 ^ (b + 1) ≡ 2 * 2 ^ b
twice b = ap (λ (n : ℕ). 2 ^ n) (let e : b + 1 ≡ suc b = omega arith in e) ∙ pow-succ' 2 b

pub row_less : (row b : ℕ) → row < 2 ^ b → row < 2 ^ (b + 1)
row_less row b lt = omega (arith, twice b)

pub row_more : (row b : ℕ) → b < 64 → row < 2 ^ b → bit_or row ((1 * 2 ^ b) % 18446744073709551616) < 2 ^ (b + 1)
row_more row b below lt =
    or_lt (b + 1) row ((1 * 2 ^ b) % 18446744073709551616) (row_less row b lt) (omega (arith, twice b, one_shl b 64 below))
