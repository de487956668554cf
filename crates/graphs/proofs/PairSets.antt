-- Rows from sets of pairs and back. Assumes nothing.
use Rattle.std.proofs.Common.{◌≡◌, ℕ, zero, suc, ◌-◌, ◌^◌, ◌<◌, ◌≤◌, Bool, false, not, ◌&&◌, ltb, List, [], ◌∷◌, length, get_or, take, sym, refl, ap, ◌∙◌, ap₂, ⊎_elim, arith, pow_pos}
use mathlib.Core.Path.{fun_ext}
use lib.Bits.{bit_and}
use Rattle.std.proofs.lemmas.List.{get_or_past}
use Rattle.std.proofs.lemmas.Bool.{both_ways, cases_lt}
use Rattle.std.proofs.lemmas.Bool.Decides.{nat_tests}
use Rattle.graphs.specs.Rows.{bit, Pairs, pairs, rows_of}
use Rattle.graphs.proofs.Bits.{bit_of_and, bit_none, bit_past, bit_not, bits_below}
use Rattle.graphs.proofs.Rows.{bit_row_of, row_from_lt, row_is}

-- ---- the rows of a set of pairs

pub rows_length : (m n : ℕ) (s : Pairs) → length (rows_of m n s) ≡ m
unfolding rows_of
rows_length zero n s = refl
rows_length (suc m) n s = ap suc (rows_length m n (λ u. s (suc u)))

pub rows_low : (m n : ℕ) (s : Pairs) (u : ℕ) → get_or (rows_of m n s) u 0 < 2 ^ n
unfolding rows_of
rows_low zero n s u = pow_pos n
rows_low (suc m) n s zero = row_from_lt 0 (s 0) n
rows_low (suc m) n s (suc u) = rows_low m n (λ v. s (suc v)) u

pub pairs_rows : (m n : ℕ) (s : Pairs) (u b : ℕ) → pairs (rows_of m n s) u b ≡ (ltb u m && (ltb b n && s u b))
unfolding rows_of
pairs_rows zero n s u b = grind (arith, nat_tests, bit_none b)
pairs_rows (suc m) n s zero b = grind (arith, nat_tests, bit_row_of n (s 0) b)
pairs_rows (suc m) n s (suc u) b = grind (arith, nat_tests, pairs_rows m n (λ v. s (suc v)) u b)

-- a set that holds only units below m and bays below n is that of its rows
pub pairs_back : (m n : ℕ) (s : Pairs) → ((u b : ℕ) → m ≤ u → s u b ≡ false) → ((u b : ℕ) → n ≤ b → s u b ≡ false) → pairs (rows_of m n s) ≡ s
pairs_back m n s us bs = fun_ext (λ u. fun_ext (λ b. pairs_rows m n s u b
    ∙ ⊎_elim
    (λ lu. ⊎_elim (λ lb. grind (arith, nat_tests)) (λ gb. grind (arith, nat_tests, bs u b gb)) (cases_lt b n))
    (λ gu. grind (arith, nat_tests, us u b gu)) (cases_lt u m)))

-- rows inside n bays are those of their pairs
pub take_rows : (m n : ℕ) (rows : List ℕ) → m ≤ length rows → ((u : ℕ) → get_or rows u 0 < 2 ^ n) → take m rows ≡ rows_of m n (pairs rows)
unfolding rows_of
take_rows zero n rows le w = refl
take_rows (suc m) n [] le w = absurd (omega arith)
take_rows (suc m) n (x ∷ rows) le w =
    ap₂ (λ (a : ℕ) (b : List ℕ). a ∷ b) (row_is n x (bit x) (λ c. low c)) (take_rows m n rows (omega arith) (λ u. w (suc u)))
  where
    low : (c : ℕ) → bit x c ≡ (ltb c n && bit x c)
    low c = ⊎_elim (λ l. grind (arith, nat_tests)) (λ g. grind (arith, nat_tests, bit_past x c n (w 0) g)) (cases_lt c n)

-- ---- tables inside their bounds

pub low_by : (n : ℕ) (rows : List ℕ) → ((u b : ℕ) → n ≤ b → pairs rows u b ≡ false) → (u : ℕ) → get_or rows u 0 < 2 ^ n
low_by n rows none u = bits_below n (get_or rows u 0) (λ c t. ⊎_elim (λ l. l) (λ g. absurd (both_ways _ (none u c g) t)) (cases_lt c n))

pub blank_by : (m : ℕ) (rows : List ℕ) → ((u b : ℕ) → m ≤ u → pairs rows u b ≡ false) → (u : ℕ) → m ≤ u → get_or rows u 0 ≡ 0
blank_by m rows none u le =
    let l : get_or rows u 0 < 2 ^ 0 = bits_below 0 (get_or rows u 0) (λ c t. absurd (both_ways _ (none u c le) t)) in
    omega arith

pub none_past : (m : ℕ) (rows : List ℕ) → ((u : ℕ) → m ≤ u → get_or rows u 0 ≡ 0) → (u b : ℕ) → m ≤ u → pairs rows u b ≡ false
none_past m rows z u b le = ap (λ (x : ℕ). bit x b) (z u le) ∙ bit_none b

pub none_beyond : (n : ℕ) (rows : List ℕ) → ((u : ℕ) → get_or rows u 0 < 2 ^ n) → (u b : ℕ) → n ≤ b → pairs rows u b ≡ false
none_beyond n rows w u b le = bit_past (get_or rows u 0) b n (w u) le

-- ---- a table of 24 rows that is made row by row

pub all_rows : (s : Pairs) (rows : List ℕ) → length rows ≡ 24 → ((u b : ℕ) → u < 24 → pairs rows u b ≡ s u b) → ((u b : ℕ) → 24 ≤ u → s u b ≡ false) → (u b : ℕ) → pairs rows u b ≡ s u b
all_rows s rows long held none u b =
    ⊎_elim (λ lt. held u b lt)
    (λ ge. ap (λ (x : ℕ). bit x b) (get_or_past rows u 0 (omega arith)) ∙ bit_none b ∙ sym (none u b ge)) (cases_lt u 24)

pub past_table : (rows : List ℕ) → length rows ≡ 24 → (u b : ℕ) → 24 ≤ u → pairs rows u b ≡ false
past_table rows e u b le = ap (λ (x : ℕ). bit x b) (get_or_past rows u 0 (omega arith)) ∙ bit_none b

-- the bays of a row that are not in another
pub bit_without : (x y b : ℕ) → x < 2 ^ 64 → y < 2 ^ 64 → bit (bit_and x (18446744073709551615 - y)) b ≡ (bit x b && not (bit y b))
bit_without x y b hx hy =
    bit_of_and x (18446744073709551615 - y) b ∙ ap (λ (t : Bool). bit x b && t) (bit_not 64 y b hy)
    ∙ ⊎_elim (λ l. grind (arith, nat_tests)) (λ g. grind (arith, nat_tests, bit_past x b 64 hx g)) (cases_lt b 64)
