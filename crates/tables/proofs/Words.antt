-- Shifts past a word, and the place of a word's lowest set bit. Assumes nothing.
use Rattle.std.proofs.Common.{◌≡◌, ℕ, zero, suc, ◌+◌, ◌-◌, ◌/◌, ◌%◌, ◌^◌, ◌<◌, ◌≤◌, refl, add_comm, add-one, arith, pow_mono}
use native.Mathlib.Nat.{div-eq_of_lt}
use lib.Count.{count_trailing_zeros, under}
use Rattle.std.proofs.lemmas.Nat.{shr_below}

-- nothing is left of a 64-bit word past its rows
pub shr_past : (n limit : ℕ) → n < 2 ^ 64 → 64 ≤ limit → n / 2 ^ limit ≡ 0
shr_past n limit h l = let p : 2 ^ 64 ≤ 2 ^ limit = pow_mono l in div-eq_of_lt (omega arith)

under_lt : (d t m : ℕ) → (d ≡ 0 → t < m) → under d t < suc m
under_lt zero t m f = omega (arith, f refl)
under_lt (suc d) t m f = omega arith

pub trailing_lt : (k m n : ℕ) → m ≤ k → 0 < n → n < 2 ^ m → count_trailing_zeros k n < m
unfolding count_trailing_zeros
trailing_lt k zero n h p q = absurd (omega arith)
trailing_lt zero (suc m) n h p q = absurd (omega arith)
trailing_lt (suc k) (suc m) n h p q =
    under_lt (n % 2) (count_trailing_zeros k (n / 2)) m
    (λ e. trailing_lt k m (n / 2) (omega arith) (omega arith) (shr_below n m 1 (rw add-one q)))

-- the lowest set bit of a word past a limit is one of its 64
pub past_lt : (n limit : ℕ) → n < 2 ^ 64 → limit < 64 → (n / 2 ^ limit ≡ 0 → ⊥) → limit + count_trailing_zeros 64 (n / 2 ^ limit) < 64
past_lt n limit h l p =
    let split : limit + (64 - limit) ≡ 64 = omega arith in
    let small : n / 2 ^ limit < 2 ^ (64 - limit) = shr_below n (64 - limit) limit (rw (add_comm (64 - limit) limit, split) h) in
    let low : count_trailing_zeros 64 (n / 2 ^ limit) < 64 - limit = trailing_lt 64 (64 - limit) (n / 2 ^ limit) (omega arith) (omega arith) small in
    omega arith
