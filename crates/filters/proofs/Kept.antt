-- Filters by a test on pairs: they are lawful where the test passes on every pair of every placement. Assumes nothing.
use Rattle.std.proofs.Common.{◌≡◌, ℕ, zero, suc, ◌+◌, ◌<◌, ◌≤◌, Bool, true, false, ◌&&◌, ltb, List, [], ◌∷◌, length, get_or, set, sym, refl, ap, ◌∙◌, inl, inr, arith, length-set, get_or-set_other, get_or-set_same}
use lib.Count.{ones}
use Rattle.std.proofs.lemmas.List.{ext_get_or}
use Rattle.std.proofs.lemmas.Bool.{cases_eq, cases_Bool, cond-true, cond-false, and_parts, and_from, and_right, lt-ltb}
use Rattle.graphs.specs.Rows.{bit, row_of, rows_of, Pairs, pairs}
use Rattle.graphs.specs.Graph.{Graph, Sound}
use Rattle.graphs.proofs.Rows.{row_is}
use Rattle.graphs.proofs.PairSets.{rows_length, pairs_rows}
use Rattle.placements.specs.Placement.{Placement}
use Rattle.filters.specs.Filter.{shaped, pair_count, Lawful, Inside, Resumes}
use Rattle.filters.specs.Kept.{PairTest, kept_rows}
use Rattle.filters.specs.Counting.{ones_zero}
use Rattle.filters.specs.Shapes.{Shape, shape_of, shaped_kept}

rows_of_at : (m n : ℕ) (p : Pairs) (u : ℕ) → u < m → get_or (rows_of m n p) u 0 ≡ row_of n (p u)
unfolding rows_of
rows_of_at zero n p u l = absurd (omega arith)
rows_of_at (suc m) n p zero l = refl
rows_of_at (suc m) n p (suc u) l = rows_of_at m n (λ v. p (suc v)) u (omega arith)

module _ (test : PairTest) (a r : Graph) (k : Bool) (rows : List ℕ) where
  shaped_is : shaped a r rows ≡ true → kept_rows test a r k rows ≡ rows_of a.count r.count (λ u b. pairs rows u b && test a r k u b)
  shaped_is e = cond-true (shaped a r rows) _ rows e

  ill_is : shaped a r rows ≡ false → kept_rows test a r k rows ≡ rows
  ill_is e = cond-false (shaped a r rows) _ rows e

  as_many_is : length (kept_rows test a r k rows) ≡ length rows
  as_many_is =
      elim (cases_Bool (shaped a r rows)) [
        | inl e ↦ ap length (shaped_is e) ∙ rows_length a.count r.count (λ u b. pairs rows u b && test a r k u b) ∙ sym (shape_of a r rows e).many
        | inr e ↦ ap length (ill_is e)
      ]

  -- a pair that is kept was there and passes
  pub kept_pair : shaped a r rows ≡ true → (u b : ℕ) → pairs (kept_rows test a r k rows) u b ≡ true → (pairs rows u b ≡ true) × (test a r k u b ≡ true)
  kept_pair e u b t =
      and_parts (pairs rows u b) (test a r k u b)
      (and_parts (ltb b r.count) (pairs rows u b && test a r k u b)
      (and_parts (ltb u a.count) (ltb b r.count && (pairs rows u b && test a r k u b))
      (sym (pairs_rows a.count r.count (λ v c. pairs rows v c && test a r k v c) u b) ∙ sym (ap (λ (xs : List ℕ). pairs xs u b) (shaped_is e)) ∙ t)).1).1

  adds_none_is : Inside (kept_rows test a r k rows) rows
  adds_none_is u b t =
      elim (cases_Bool (shaped a r rows)) [
        | inl e ↦ (kept_pair e u b t).0
        | inr e ↦ sym (ap (λ (xs : List ℕ). pairs xs u b) (ill_is e)) ∙ t
      ]

  -- a pair that passes is kept
  pub pair_kept : (u b : ℕ) → pairs rows u b ≡ true → test a r k u b ≡ true → pairs (kept_rows test a r k rows) u b ≡ true
  pair_kept u b t p =
      elim (cases_Bool (shaped a r rows)) [
        | inl e ↦
            let s = shape_of a r rows e in
            ap (λ (xs : List ℕ). pairs xs u b) (shaped_is e)
            ∙ pairs_rows a.count r.count (λ v c. pairs rows v c && test a r k v c) u b
            ∙ and_from (ltb u a.count) (ltb b r.count && (pairs rows u b && test a r k u b)) (lt-ltb u a.count (s.unit u b t))
            (and_from (ltb b r.count) (pairs rows u b && test a r k u b) (lt-ltb b r.count (s.under u b t)) (and_from (pairs rows u b) (test a r k u b) t p))
        | inr e ↦ ap (λ (xs : List ℕ). pairs xs u b) (ill_is e) ∙ t
      ]

  -- rows that hold, unit for unit, the pairs that pass
  pub are_kept : (left : List ℕ) → shaped a r rows ≡ true → length left ≡ length rows
      → ((u b : ℕ) → u < a.count → bit (get_or left u 0) b ≡ (bit (get_or rows u 0) b && test a r k u b)) → left ≡ kept_rows test a r k rows
  are_kept left e m h =
      let s = shape_of a r rows e in
      ext_get_or 0 left (rows_of a.count r.count (λ u b. pairs rows u b && test a r k u b)) (m ∙ s.many ∙ sym (rows_length a.count r.count (λ u b. pairs rows u b && test a r k u b)))
      (λ u l.
      let lu : u < a.count = omega (arith, s.many) in
      row_is r.count (get_or left u 0) (λ b. pairs rows u b && test a r k u b) (λ b. h u b lu ∙ under_too s u b)
      ∙ sym (rows_of_at a.count r.count (λ v c. pairs rows v c && test a r k v c) u lu))
      ∙ sym (shaped_is e)
    where
      under_too : Shape a r rows → (u b : ℕ) → (pairs rows u b && test a r k u b) ≡ (ltb b r.count && (pairs rows u b && test a r k u b))
      under_too s u b =
          elim (cases_Bool (pairs rows u b && test a r k u b)) [
            | inl t ↦ t ∙ sym (and_from (ltb b r.count) (pairs rows u b && test a r k u b) (lt-ltb b r.count (s.under u b (and_parts (pairs rows u b) (test a r k u b) t).0)) t)
            | inr t ↦ t ∙ sym (and_right (ltb b r.count) (pairs rows u b && test a r k u b) t)
          ]

-- the test passes on every pair of every placement
abbrev pub Spares : PairTest → Type 0
Spares test =
    (a r : Graph) (strict : Bool) (w : List ℕ) → Sound a → Sound r → Placement a r strict w
    → (u : ℕ) → u < a.count → test a r strict u (get_or w u 0) ≡ true

pub kept_lawful : (test : PairTest) → Spares test → Lawful (kept_rows test)
kept_lawful test spares = record {
  as_many = λ a r k rows. as_many_is test a r k rows;
  adds_none = λ a r k rows. adds_none_is test a r k rows;
  keeps = λ a r k rows w sa sr p h u l. pair_kept test a r k rows u (get_or w u 0) (h u l) (spares a r k w sa sr p u (omega (arith, p.whole)));
  leaves = λ a r k rows. ill_is test a r k rows;
}

-- rows cut from rows that the filter has left all pass: there is nothing to take away
pub kept_resumes : (test : PairTest) (a r : Graph) (k : Bool) (changed : ℕ) (rows : List ℕ) → Resumes (kept_rows test) a r k changed rows rows
kept_resumes test a r k changed rows before s c =
    let inside : Inside rows before = λ u b t. adds_none_is test a r k before u b (c.inside u b t) in
    are_kept test a r k rows rows
    (shaped_kept a r before rows s (c.as_many ∙ as_many_is test a r k before) inside) refl
    (λ u b l. elim (cases_Bool (bit (get_or rows u 0) b)) [
      | inl t ↦ t ∙ sym (and_from (bit (get_or rows u 0) b) (test a r k u b) t (kept_pair test a r k before s u b (c.inside u b t)).1)
      | inr t ↦ t ∙ sym (ap (λ (x : Bool). x && test a r k u b) t)
    ])

-- code that visits the rows one by one

pair_count_set : (xs : List ℕ) (u x : ℕ) → u < length xs → pair_count (set xs u x) + ones (get_or xs u 0) ≡ pair_count xs + ones x
pair_count_set [] u x l = absurd (omega arith)
pair_count_set (y ∷ ys) zero x l = omega arith
pair_count_set (y ∷ ys) (suc u) x l = let h = pair_count_set ys u x (omega arith) in omega arith

-- the rows of the units below u hold the pairs that pass, the others are as they were, and so many pairs are gone
pub record Thinned (test : Pairs) (start : List ℕ) (u : ℕ) (rows : List ℕ) (taken : ℕ) : Type 0 where
  pub many : length rows ≡ length start
  pub kept : (v b : ℕ) → v < u → bit (get_or rows v 0) b ≡ (bit (get_or start v 0) b && test v b)
  pub rest : (v : ℕ) → u ≤ v → get_or rows v 0 ≡ get_or start v 0
  pub counted : pair_count start ≡ taken + pair_count rows

pub thinned_none : (test : Pairs) (rows : List ℕ) → Thinned test rows 0 rows 0
thinned_none test rows = record { many = refl; kept = λ v b l. absurd (omega arith); rest = λ v l. refl; counted = omega arith }

pub thinned_more : (test : Pairs) (start : List ℕ) (u : ℕ) (rows : List ℕ) (taken x t : ℕ) → u < length rows → Thinned test start u rows taken
    → ((b : ℕ) → bit x b ≡ (bit (get_or rows u 0) b && test u b)) → t + ones x ≡ ones (get_or rows u 0)
    → Thinned test start (u + 1) (set rows u x) (taken + t)
thinned_more test start u rows taken x t l h e d = record {
  many = length-set rows u x ∙ h.many;
  kept = λ v b lv. elim (cases_eq v u) [
    | inl z ↦
        ap (λ (y : ℕ). bit y b) (ap (λ (i : ℕ). get_or (set rows u x) i 0) z ∙ get_or-set_same rows u x 0 l)
        ∙ e b ∙ ap (λ (y : ℕ). bit y b && test u b) (h.rest u (omega arith))
        ∙ ap (λ (i : ℕ). bit (get_or start i 0) b && test i b) (sym z)
    | inr ne ↦ ap (λ (y : ℕ). bit y b) (get_or-set_other rows u v x 0 ne) ∙ h.kept v b (let lt : v < u = omega arith in lt)
  ];
  rest = λ v lv. get_or-set_other rows u v x 0 (λ z. omega arith) ∙ h.rest v (omega arith);
  counted = omega (arith, h.counted, pair_count_set rows u x l);
}

pub thinned_all : (test : PairTest) (a r : Graph) (k : Bool) (start rows : List ℕ) (u taken : ℕ) → shaped a r start ≡ true → length start ≤ u
    → Thinned (test a r k) start u rows taken → rows ≡ kept_rows test a r k start
thinned_all test a r k start rows u taken e l h =
    are_kept test a r k start rows e h.many (λ v b lv. h.kept v b (omega (arith, (shape_of a r start e).many)))

row_count : (xs : List ℕ) (u : ℕ) → ones (get_or xs u 0) ≤ pair_count xs
row_count [] u = omega (arith, ones_zero)
row_count (x ∷ xs) zero = omega arith
row_count (x ∷ xs) (suc u) = let h = row_count xs u in omega arith

-- no more can be taken than there was
pub thinned_fits : (test : Pairs) (start : List ℕ) (u : ℕ) (rows : List ℕ) (taken : ℕ) → Thinned test start u rows taken → taken + ones (get_or rows u 0) ≤ pair_count start
thinned_fits test start u rows taken h = omega (arith, h.counted, row_count rows u)
