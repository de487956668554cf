-- Rows of the shape that filters work on. Assumes nothing.
use Rattle.std.specs.Prelude.{◌≡◌, ℕ, zero, suc, ◌+◌, ◌-◌, ◌^◌, ◌<◌, ◌≤◌, Bool, true, false, ◌&&◌, List, [], ◌∷◌, length, ◌==◌, nat_le, nat_lt, slice_index, refl}
use Rattle.std.proofs.Common.{sym, ap, ◌∙◌, inl, inr, ⊎_elim, mul-le-mul_right, arith, pow_pos, pow_mono}
use Rattle.std.proofs.lemmas.List.{get_or_past}
use Rattle.std.proofs.lemmas.Bool.{both_ways, ltb-true, leb-true, eqb-true, lt-ltb, le-leb, eq-eqb, cases_lt, cases_Bool, and_parts, and_from}
use Rattle.graphs.specs.Rows.{bit}
use Rattle.graphs.specs.Graph.{Graph, Sound}
use Rattle.graphs.proofs.Bits.{bit_none, bit_below, bits_below}
use Rattle.filters.specs.Filter.{shaped, all_below, pair_count, Inside, Lawful, Meaning}
use Rattle.filters.specs.Counting.{below_pow, ones_same, ones_mono, pair_count_mono, pair_count_below}

pub all_below_at : (n : ℕ) (rows : List ℕ) → all_below n rows ≡ true → (u : ℕ) → slice_index rows u < 2 ^ n
all_below_at n [] e u = pow_pos n
all_below_at n (x ∷ xs) e zero = ltb-true x (2 ^ n) (and_parts (nat_lt x (2 ^ n)) (all_below n xs) e).0
all_below_at n (x ∷ xs) e (suc u) = all_below_at n xs (and_parts (nat_lt x (2 ^ n)) (all_below n xs) e).1 u

pub all_below_from : (n : ℕ) (rows : List ℕ) → ((u : ℕ) → slice_index rows u < 2 ^ n) → all_below n rows ≡ true
all_below_from n [] h = refl
all_below_from n (x ∷ xs) h = and_from (nat_lt x (2 ^ n)) (all_below n xs) (lt-ltb x (2 ^ n) (h 0)) (all_below_from n xs (λ u. h (suc u)))

pub pair_count_same : (n : ℕ) (xs ys : List ℕ) → length xs ≡ length ys → all_below n ys ≡ true → Inside xs ys → pair_count ys ≤ pair_count xs → xs ≡ ys
pair_count_same n [] [] l s w e = refl
pair_count_same n [] (y ∷ ys) l s w e = absurd (omega arith)
pair_count_same n (x ∷ xs) [] l s w e = absurd (omega arith)
pair_count_same n (x ∷ xs) (y ∷ ys) l s w e =
    let q = and_parts (nat_lt y (2 ^ n)) (all_below n ys) s in
    let h = ones_mono x y (w 0) in
    let m : length xs ≡ length ys = omega arith in
    let t = pair_count_mono xs ys m (λ u. w (suc u)) in
    let a : x ≡ y = ones_same n x y (ltb-true y (2 ^ n) q.0) (w 0) (omega arith) in
    let b : xs ≡ ys = pair_count_same n xs ys m q.1 (λ u. w (suc u)) (omega arith) in
    ap (λ (z : ℕ). z ∷ xs) a ∙ ap (λ (zs : List ℕ). y ∷ zs) b

pub record Shape (a r : Graph) (rows : List ℕ) : Type 0 where
  pub many : length rows ≡ a.count
  pub few : a.count ≤ 24
  pub rest : all_below r.count rows ≡ true
  pub under : (u b : ℕ) → bit (slice_index rows u) b ≡ true → b < r.count
  pub unit : (u b : ℕ) → bit (slice_index rows u) b ≡ true → u < a.count

pub bit_unit : (rows : List ℕ) (u b : ℕ) → bit (slice_index rows u) b ≡ true → u < length rows
bit_unit rows u b t =
    elim (cases_lt u (length rows)) [
      | inl l ↦ l
      | inr l ↦ absurd (both_ways (bit (slice_index rows u) b) (ap (λ (x : ℕ). bit x b) (get_or_past rows u 0 l) ∙ bit_none b) t)
    ]

pub shape_of : (a r : Graph) (rows : List ℕ) → shaped a r rows ≡ true → Shape a r rows
shape_of a r rows e =
    let p = and_parts (length rows == a.count && nat_le a.count 24) (all_below r.count rows) e in
    let q = and_parts (length rows == a.count) (nat_le a.count 24) p.0 in
    let m = eqb-true (length rows) a.count q.0 in
    record {
      many = m;
      few = leb-true a.count 24 q.1;
      rest = p.1;
      under = λ u b t. bit_below (slice_index rows u) r.count b (all_below_at r.count rows p.1 u) t;
      unit = λ u b t. let l = bit_unit rows u b t in omega arith;
    }

pub shaped_kept : (a r : Graph) (rows xs : List ℕ) → shaped a r rows ≡ true → length xs ≡ length rows → Inside xs rows → shaped a r xs ≡ true
shaped_kept a r rows xs e l w =
    let s = shape_of a r rows e in
    and_from (length xs == a.count && nat_le a.count 24) (all_below r.count xs)
    (and_from (length xs == a.count) (nat_le a.count 24) (eq-eqb _ _ (l ∙ s.many)) (le-leb _ _ s.few))
    (all_below_from r.count xs (λ u. bits_below r.count (slice_index xs u) (λ c t. s.under u c (w u c t))))

pub shaped_not : (a r : Graph) (rows : List ℕ) (u : ℕ) → (slice_index rows u < 2 ^ r.count → ⊥) → false ≡ shaped a r rows
shaped_not a r rows u h =
    elim (cases_Bool (shaped a r rows)) [
      | inl e ↦ absurd (h (all_below_at r.count rows (shape_of a r rows e).rest u))
      | inr e ↦ sym e
    ]

pub shaped_from : (a r : Graph) (rows : List ℕ) → length rows ≡ a.count → a.count ≤ 24 → ((u : ℕ) → u < length rows → slice_index rows u < 2 ^ r.count) → true ≡ shaped a r rows
shaped_from a r rows m f h =
    sym (and_from (length rows == a.count && nat_le a.count 24) (all_below r.count rows)
    (and_from (length rows == a.count) (nat_le a.count 24) (eq-eqb _ _ m) (le-leb _ _ f))
    (all_below_from r.count rows (λ u. elim (cases_lt u (length rows)) [
      | inl l ↦ h u l
      | inr l ↦ let p = pow_pos r.count in omega (arith, get_or_past rows u 0 l)
    ])))

pub shaped_few : (a r : Graph) (rows : List ℕ) → Sound r → shaped a r rows ≡ true → pair_count rows ≤ 1536
shaped_few a r rows s e =
    let p = and_parts (length rows == a.count && nat_le a.count 24) (all_below r.count rows) e in
    let q = and_parts (length rows == a.count) (nat_le a.count 24) p.0 in
    let l : length rows ≤ 24 = omega (arith, eqb-true (length rows) a.count q.0, leb-true a.count 24 q.1) in
    let b = pair_count_below r.count rows p.1 in
    let m = mul-le-mul_right r.count l in
    omega (arith, s.few)

-- no filter takes more away than there can be
pub taken_few : (f : Meaning) → Lawful f → (a r : Graph) (strict : Bool) (rows : List ℕ) → Sound r → pair_count rows - pair_count (f a r strict rows) ≤ 1536
taken_few f l a r strict rows s =
    ⊎_elim
    (λ e. omega (arith, shaped_few a r rows s e))
    (λ e. omega (arith, ap pair_count (l.leaves a r strict rows e)))
    (cases_Bool (shaped a r rows))

pub taken_less : (f : Meaning) → Lawful f → (a r : Graph) (strict : Bool) (rows : List ℕ) → pair_count (f a r strict rows) ≤ pair_count rows
taken_less f l a r strict rows = pair_count_mono (f a r strict rows) rows (l.as_many a r strict rows) (l.adds_none a r strict rows)

widest : (xs : List ℕ) → (n : ℕ) × (all_below n xs ≡ true)
widest [] = (0, refl)
widest (x ∷ xs) =
    let t = widest xs in
    let n : ℕ = x + t.0 in (
      n,
      and_from (nat_lt x (2 ^ n)) (all_below n xs)
          (lt-ltb x (2 ^ n) (let p = below_pow x in let m : 2 ^ x ≤ 2 ^ n = pow_mono (omega arith) in omega arith))
          (all_below_from n xs (λ u. let b = all_below_at t.0 xs t.1 u in let m : 2 ^ t.0 ≤ 2 ^ n = pow_mono (omega arith) in omega arith)),
    )

-- a filter that takes nothing away changes nothing
pub unchanged : (f : Meaning) → Lawful f → (a r : Graph) (strict : Bool) (rows : List ℕ) → pair_count rows ≡ pair_count (f a r strict rows) → f a r strict rows ≡ rows
unchanged f l a r strict rows e =
    let w = widest rows in
    pair_count_same w.0 (f a r strict rows) rows (l.as_many a r strict rows) w.1 (l.adds_none a r strict rows) (omega arith)
