-- How many pairs rows hold, and how many of them are empty. Assumes nothing.
use Rattle.std.specs.Prelude.{◌≡◌, ℕ, zero, suc, ◌+◌, ◌*◌, ◌/◌, ◌%◌, ◌^◌, ◌<◌, ◌≤◌, true, cond, List, [], ◌∷◌, length, ◌==◌, count_ones, count_by, nat_lt, refl}
use Rattle.std.proofs.Common.{sym, ap, ◌∙◌, ⊎_elim, zero-le, arith}
use Rattle.std.proofs.Math.Nat.{pow-succ'}
use Rattle.std.specs.Int.Count.{ones_step}
use Rattle.std.proofs.lemmas.Nat.{ones-le}
use Rattle.std.proofs.lemmas.Bool.{ltb-true, eqb-true, eqb-false, and_parts, cases_Bool}
use Rattle.std.proofs.lemmas.List.Sums.{sum_by-cons}
use Rattle.graphs.specs.Rows.{bit}
use Rattle.graphs.proofs.Bits.{bit_zero, bit_suc, bit_below, bits_below}
use Rattle.filters.specs.Filter.{all_below, pair_count, empty_count, Inside}

-- every bit of x is one of y
abbrev pub Part : ℕ → ℕ → Type 0
Part x y = (b : ℕ) → bit x b ≡ true → bit y b ≡ true

pub inside_half : (x y : ℕ) → Part x y → Part (x / 2) (y / 2)
inside_half x y h b e = sym (bit_suc y b) ∙ h (suc b) (bit_suc x b ∙ e)

pub low_inside : (x y : ℕ) → Part x y → x % 2 ≤ y % 2
low_inside x y h =
    ⊎_elim
    (λ e. omega (arith, eqb-true (x % 2) 1 e, eqb-true (y % 2) 1 (sym (bit_zero y) ∙ h 0 (bit_zero x ∙ e))))
    (λ e. let n = eqb-false (x % 2) 1 e in omega arith)
    (cases_Bool (x % 2 == 1))

pub ones_zero : count_ones 0 ≡ 0
ones_zero = omega (arith, ones-le 0 0 (omega arith))

pub ones_inside : (k x y : ℕ) → x < 2 ^ k → Part x y → count_ones x ≤ count_ones y
ones_inside zero x y lt h =
    let z : x ≡ 0 = omega arith in
    omega (arith, ap count_ones z, ones_zero)
ones_inside (suc k) x y lt h =
    let p : 2 ^ suc k ≡ 2 ^ k * 2 = omega arith in
    let q : x / 2 < 2 ^ k = omega arith in
    let r = ones_inside k (x / 2) (y / 2) q (inside_half x y h) in
    let l = low_inside x y h in
    omega (arith, ones_step x, ones_step y)

pub below_pow : (n : ℕ) → n < 2 ^ n
below_pow zero = omega arith
below_pow (suc n) = let h = below_pow n in omega arith

pub ones_mono : (x y : ℕ) → Part x y → count_ones x ≤ count_ones y
ones_mono x y h = ones_inside x x y (below_pow x) h

pub pair_count_mono : (xs ys : List ℕ) → length xs ≡ length ys → Inside xs ys → pair_count xs ≤ pair_count ys
pair_count_mono [] ys e w = zero-le
pair_count_mono (x ∷ xs) [] e w = absurd (omega arith)
pair_count_mono (x ∷ xs) (y ∷ ys) e w =
    let h = ones_mono x y (w 0) in
    let t = pair_count_mono xs ys (omega arith) (λ u. w (suc u)) in
    omega arith

pub pair_count_below : (n : ℕ) (xs : List ℕ) → all_below n xs ≡ true → pair_count xs ≤ length xs * n
pair_count_below n [] e = zero-le
pair_count_below n (x ∷ xs) e =
    let p = and_parts (nat_lt x (2 ^ n)) (all_below n xs) e in
    let h = ones-le n x (ltb-true x (2 ^ n) p.0) in
    let t = pair_count_below n xs p.1 in
    omega arith

pub empty_count_is : (xs : List ℕ) → count_by (λ x. x == 0) xs ≡ empty_count xs
empty_count_is [] = refl
empty_count_is (x ∷ xs) = sum_by-cons (λ y. cond (y == 0) 1 0) x xs ∙ ap (λ (n : ℕ). cond (x == 0) 1 0 + n) (empty_count_is xs)

-- equal counts

ones_same_k : (k x y : ℕ) → x < 2 ^ k → y < 2 ^ k → ((b : ℕ) → bit x b ≡ true → bit y b ≡ true) → count_ones y ≤ count_ones x → x ≡ y
ones_same_k zero x y lx ly h e = omega arith
ones_same_k (suc k) x y lx ly h e =
    let lo = low_inside x y h in
    let hi = ones_mono (x / 2) (y / 2) (inside_half x y h) in
    let sx = ones_step x in
    let sy = ones_step y in
    let p = pow-succ' 2 k in
    let q = ones_same_k k (x / 2) (y / 2) (omega arith) (omega arith) (inside_half x y h) (omega arith) in
    omega arith

pub ones_same : (n x y : ℕ) → y < 2 ^ n → ((b : ℕ) → bit x b ≡ true → bit y b ≡ true) → count_ones y ≤ count_ones x → x ≡ y
ones_same n x y l h e = ones_same_k n x y (bits_below n x (λ c t. bit_below y n c l (h c t))) l h e
