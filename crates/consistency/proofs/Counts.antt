-- Counts of rows. Assumes nothing.
use Rattle.std.proofs.Common.{◌≡◌, ℕ, zero, suc, ◌+◌, List, [], ◌∷◌, replicate, refl, ap, ◌∙◌, arith}
use lib.Count.{ones}
use Rattle.std.specs.List.{sum_by}
use Rattle.std.proofs.lemmas.List.Sums.{sum_by-cons}
use Rattle.filters.specs.Filter.{pair_count, empty_count}
use Rattle.filters.specs.Counting.{ones_zero}

pub pair_count_is : (xs : List ℕ) → sum_by ones xs ≡ pair_count xs
pair_count_is [] = refl
pair_count_is (x ∷ xs) = sum_by-cons ones x xs ∙ ap (λ (n : ℕ). ones x + n) (pair_count_is xs)

-- rows with no pair

pub pair_count_none : (n : ℕ) → pair_count (replicate n 0) ≡ 0
pair_count_none zero = refl
pair_count_none (suc n) = let h = pair_count_none n in omega (arith, ones_zero)

pub empty_count_all : (n : ℕ) → empty_count (replicate n 0) ≡ n
empty_count_all zero = refl
empty_count_all (suc n) = let h = empty_count_all n in omega arith
