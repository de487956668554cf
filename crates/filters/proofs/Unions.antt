-- The union of rows, made row by row. Assumes nothing.
use Rattle.std.proofs.Common.{ℕ, ◌+◌, ◌^◌, ◌<◌, ◌≤◌, List, get_or, sym, subst, inl, inr, arith, pow_pos}
use lib.Bits.{bit_or}
use Rattle.std.proofs.lemmas.Nat.{or_lt, le_or_l, le_or_r}
use Rattle.std.proofs.lemmas.Bool.{cases_eq}

-- `union` is that of the first k rows
pub record UnionOf (rows : List ℕ) (k union : ℕ) : Type 0 where
  pub holds : (u : ℕ) → u < k → get_or rows u 0 ≤ union
  pub below : (n : ℕ) → ((u : ℕ) → get_or rows u 0 < 2 ^ n) → union < 2 ^ n

pub union_none : (rows : List ℕ) → UnionOf rows 0 0
union_none rows = record { holds = λ u l. absurd (omega arith); below = λ n h. pow_pos n }

pub union_more : (rows : List ℕ) (k union : ℕ) → UnionOf rows k union → UnionOf rows (k + 1) (bit_or union (get_or rows k 0))
union_more rows k union h =
    let x : ℕ = get_or rows k 0 in
    record {
      holds = λ u l. elim (cases_eq u k) [
        | inl z ↦ subst (λ (v : ℕ). get_or rows v 0 ≤ bit_or union x) (sym z) (le_or_r union x)
        | inr ne ↦ let le = h.holds u (omega arith) in omega (arith, le_or_l union x)
      ];
      below = λ n b. or_lt n union x (h.below n b) (b k);
    }
