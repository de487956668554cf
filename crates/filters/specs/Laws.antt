-- Filters made of others: they are lawful, and what their code counts. Assumes nothing.
use Rattle.std.specs.Prelude.{◌≡◌, ℕ, zero, suc, ◌+◌, ◌*◌, ◌^◌, ◌<◌, ◌≤◌, Bool, true, false, List, [], ◌∷◌, length, ◌==◌, ◌≢◌, slice_index, refl}
use Rattle.std.proofs.Common.{sym, ap, subst, ◌∙◌, inl, inr, zero-le, arith}
use Rattle.std.proofs.lemmas.Nat.{ones-le}
use Rattle.std.proofs.lemmas.Bool.{eqb-true, eqb-false, eq-eqb, ne_eqb, cases_Bool, cases_lt, cond-true, cond-false, cond_both, both_ways}
use Rattle.std.proofs.lemmas.List.{get_or_past}
use Rattle.graphs.specs.Rows.{bit, pairs}
use Rattle.graphs.specs.Graph.{Graph, Sound}
use Rattle.placements.specs.Placement.{Within}
use Rattle.placements.proofs.Masks.{bit_full}
use Rattle.filters.specs.Filter.{shaped, pair_count, Lawful, Meaning, Inside, CutFrom, Resumes}
use Rattle.filters.specs.Composed.{then_meaning, repeat, repeat_meaning, after_turns, Settles}
use Rattle.filters.specs.Shapes.{shape_of, shaped_kept, shaped_few, taken_less, unchanged}

-- two filters one after the other

pub then_lawful : (f g : Meaning) → Lawful f → Lawful g → Lawful (then_meaning f g)
then_lawful f g lf lg = record {
  as_many = λ a r k rows. lg.as_many a r k (f a r k rows) ∙ lf.as_many a r k rows;
  adds_none = λ a r k rows u b e. lf.adds_none a r k rows u b (lg.adds_none a r k (f a r k rows) u b e);
  keeps = λ a r k rows w sa sr p h. lg.keeps a r k (f a r k rows) w sa sr p (lf.keeps a r k rows w sa sr p h);
  leaves = λ a r k rows e. ap (g a r k) (lf.leaves a r k rows e) ∙ lg.leaves a r k rows e;
}

-- rows cut from what the second left were cut from what the first left, at any of the units
cut_first : (f g : Meaning) → Lawful f → Lawful g → (a r : Graph) (k : Bool) (changed : ℕ) (before rows : List ℕ)
    → shaped a r before ≡ true → CutFrom (then_meaning f g a r k before) changed rows → CutFrom (f a r k before) 18446744073709551615 rows
cut_first f g lf lg a r k changed before rows s c =
    let m : length rows ≡ length (f a r k before) = c.as_many ∙ lg.as_many a r k (f a r k before) in
    let n = lf.as_many a r k before in
    let few : length rows ≤ 24 = omega (arith, (shape_of a r before s).many, (shape_of a r before s).few) in
    record {
      as_many = m;
      inside = λ u b t. lg.adds_none a r k (f a r k before) u b (c.inside u b t);
      same = λ u e. elim (cases_lt u 64) [
        | inl l ↦ absurd (both_ways (bit 18446744073709551615 u) e (bit_full u l))
        | inr l ↦ get_or_past rows u 0 (omega arith) ∙ sym (get_or_past (f a r k before) u 0 (omega arith))
      ];
    }

-- the first is resumed, and as it takes nothing away the second too
pub then_resumes : (f g : Meaning) → Lawful f → Lawful g → (a r : Graph) (k : Bool) (changed : ℕ) (rows mid last : List ℕ)
    → Resumes f a r k 18446744073709551615 rows mid → Resumes g a r k changed mid last → pair_count rows ≡ pair_count mid
    → Resumes (then_meaning f g) a r k changed rows last
then_resumes f g lf lg a r k changed rows mid last rf rg same before s c =
    let e : mid ≡ f a r k rows = rf before s (cut_first f g lf lg a r k changed before rows s c) in
    let z : f a r k rows ≡ rows = unchanged f lf a r k rows (same ∙ ap pair_count e) in
    rg (f a r k before) (shaped_kept a r before (f a r k before) s (lf.as_many a r k before) (lf.adds_none a r k before))
    (subst (λ (xs : List ℕ). CutFrom (then_meaning f g a r k before) changed xs) (sym (e ∙ z)) c)
    ∙ ap (g a r k) e

-- the first is resumed, and the second applied
pub then_applies : (f g : Meaning) → Lawful f → Lawful g → (a r : Graph) (k : Bool) (changed : ℕ) (rows mid last : List ℕ)
    → Resumes f a r k 18446744073709551615 rows mid → last ≡ g a r k mid → Resumes (then_meaning f g) a r k changed rows last
then_applies f g lf lg a r k changed rows mid last rf e before s c =
    e ∙ ap (g a r k) (rf before s (cut_first f g lf lg a r k changed before rows s c))

-- rows of 64 bits, at most 24 of them
pub few_pairs : (rows : List ℕ) → ((u : ℕ) → slice_index rows u < 2 ^ 64) → pair_count rows ≤ 64 * length rows
few_pairs [] h = zero-le
few_pairs (x ∷ xs) h =
    let o = ones-le 64 x (h 0) in
    let t = few_pairs xs (λ u. h (suc u)) in
    omega arith

-- a filter repeated

-- what every turn keeps is kept
repeat_keeps : (f : List ℕ → List ℕ) (P : List ℕ → Type 0) → ((xs : List ℕ) → P xs → P (f xs)) → (n : ℕ) (rows : List ℕ) → P rows → P (repeat n f rows)
repeat_keeps f P step zero rows h = step rows h
repeat_keeps f P step (suc n) rows h =
    cond_both (pair_count (f rows) == pair_count rows) (f rows) (repeat n f (f rows)) P (λ _. step rows h) (λ _. repeat_keeps f P step n (f rows) (step rows h))

pub repeat_lawful : (f : Meaning) → Lawful f → Lawful (repeat_meaning f)
repeat_lawful f l = record {
  as_many = λ a r k rows. repeat_keeps (f a r k) (λ xs. length xs ≡ length rows) (λ xs e. l.as_many a r k xs ∙ e) (pair_count rows) rows refl;
  adds_none = λ a r k rows. repeat_keeps (f a r k) (λ xs. Inside xs rows) (λ xs h u b t. h u b (l.adds_none a r k xs u b t)) (pair_count rows) rows (λ u b t. t);
  keeps = λ a r k rows w sa sr p h. repeat_keeps (f a r k) (λ xs. Within (pairs xs) w) (λ xs i. l.keeps a r k xs w sa sr p i) (pair_count rows) rows h;
  leaves = λ a r k rows e. repeat_keeps (f a r k) (λ xs. xs ≡ rows) (λ xs d. ap (f a r k) d ∙ l.leaves a r k rows e) (pair_count rows) rows refl;
}

-- what the turns so far have kept: rows are what is left of start, and taken was taken away
pub record Again (f : Meaning) (a r : Graph) (k : Bool) (start rows : List ℕ) (taken : ℕ) : Type 0 where
  pub counted : pair_count start ≡ taken + pair_count rows
  pub same : repeat (pair_count start) (f a r k) start ≡ repeat (pair_count rows) (f a r k) rows
  pub ill : shaped a r start ≡ false → rows ≡ start

module _ (f : Meaning) (l : Lawful f) (a r : Graph) (k : Bool) where
  stop : (n : ℕ) (rows : List ℕ) → pair_count (f a r k rows) ≡ pair_count rows → repeat n (f a r k) rows ≡ f a r k rows
  stop zero rows e = refl
  stop (suc n) rows e = cond-true (pair_count (f a r k rows) == pair_count rows) _ _ (eq-eqb _ _ e)

  -- a bound above the count of pairs makes no difference
  enough : (m n : ℕ) (rows : List ℕ) → pair_count rows ≤ m → pair_count rows ≤ n → repeat m (f a r k) rows ≡ repeat n (f a r k) rows
  enough zero n rows p q = sym (stop n rows (let s = taken_less f l a r k rows in omega arith))
  enough (suc m) zero rows p q = stop (suc m) rows (let s = taken_less f l a r k rows in omega arith)
  enough (suc m) (suc n) rows p q =
      elim (cases_Bool (pair_count (f a r k rows) == pair_count rows)) [
        | inl t ↦ let e = eqb-true _ _ t in stop (suc m) rows e ∙ sym (stop (suc n) rows e)
        | inr t ↦
            let d = eqb-false _ _ t in
            let s = taken_less f l a r k rows in
            let lt : pair_count (f a r k rows) < pair_count rows = omega arith in
            cond-false (pair_count (f a r k rows) == pair_count rows) _ _ t
            ∙ enough m n (f a r k rows) (omega arith) (omega arith)
            ∙ sym (cond-false (pair_count (f a r k rows) == pair_count rows) _ _ t)
      ]

  more : (n : ℕ) (rows : List ℕ) → pair_count rows ≤ n → (pair_count (f a r k rows) ≢ pair_count rows)
      → repeat n (f a r k) rows ≡ repeat (pair_count (f a r k rows)) (f a r k) (f a r k rows)
  more zero rows le ne = let s = taken_less f l a r k rows in absurd (ne (omega arith))
  more (suc n) rows le ne =
      let s = taken_less f l a r k rows in
      let lt : pair_count (f a r k rows) < pair_count rows = elim (cases_lt (pair_count (f a r k rows)) (pair_count rows)) [ inl y ↦ y | inr y ↦ absurd (ne (omega arith)) ] in
      cond-false (pair_count (f a r k rows) == pair_count rows) _ _ (ne_eqb _ _ ne) ∙ enough n (pair_count (f a r k rows)) (f a r k rows) (omega arith) (omega arith)

  settle_now : (n : ℕ) (rows : List ℕ) → pair_count (f a r k rows) ≡ pair_count rows → Settles (f a r k) rows (repeat n (f a r k) rows)
  settle_now n rows e =
      let z : f a r k rows ≡ rows = unchanged f l a r k rows (sym e) in
      let d : repeat n (f a r k) rows ≡ rows = stop n rows e ∙ z in
      record {
        turns = 0;
        reached = sym d;
        settled = ap (f a r k) d ∙ z ∙ sym d;
        first = λ j lt. absurd (omega arith);
      }

  settle_later : (rows left : List ℕ) → (pair_count (f a r k rows) ≢ pair_count rows) → Settles (f a r k) (f a r k rows) left → Settles (f a r k) rows left
  settle_later rows left ne s = record {
    turns = suc s.turns;
    reached = s.reached;
    settled = s.settled;
    first = at;
  }
    where
      at : (j : ℕ) → j < suc s.turns → f a r k (after_turns j (f a r k) rows) ≢ after_turns j (f a r k) rows
      at zero lt e = ne (ap pair_count e)
      at (suc j) lt e = s.first j (omega arith) e

  settle : (n : ℕ) (rows : List ℕ) → pair_count rows ≤ n → Settles (f a r k) rows (repeat n (f a r k) rows)
  settle zero rows le = settle_now zero rows (let s = taken_less f l a r k rows in omega arith)
  settle (suc n) rows le =
      elim (cases_Bool (pair_count (f a r k rows) == pair_count rows)) [
        | inl t ↦ settle_now (suc n) rows (eqb-true _ _ t)
        | inr t ↦
            let d = eqb-false _ _ t in
            let s = taken_less f l a r k rows in
            subst (λ (xs : List ℕ). Settles (f a r k) rows xs) (sym (cond-false (pair_count (f a r k rows) == pair_count rows) _ _ t))
            (settle_later rows (repeat n (f a r k) (f a r k rows)) d (settle n (f a r k rows) (omega arith)))
      ]

  -- repeating comes to the first rows that one more turn leaves as they are
  pub settles : (rows left : List ℕ) → left ≡ repeat_meaning f a r k rows → Settles (f a r k) rows left
  settles rows left e = subst (λ (xs : List ℕ). Settles (f a r k) rows xs) (sym e) (settle (pair_count rows) rows (omega arith))

  pub again_start : (rows : List ℕ) → Again f a r k rows rows 0
  again_start rows = record { counted = omega arith; same = refl; ill = λ e. refl }

  -- what one more turn keeps
  pub again_fits : (start rows next : List ℕ) (taken t : ℕ) → Sound r → Again f a r k start rows taken → next ≡ f a r k rows → pair_count rows ≡ t + pair_count next → taken + t ≤ 1536
  again_fits start rows next taken t s h e d =
      elim (cases_Bool (shaped a r start)) [
        | inl q ↦ omega (arith, shaped_few a r start s q, h.counted)
        | inr q ↦
            let i = h.ill q in
            let same : f a r k rows ≡ rows = ap (f a r k) i ∙ (l.leaves a r k start q ∙ sym i) in
            omega (arith, h.counted, ap pair_count i, ap pair_count e, ap pair_count same)
      ]

  pub again_less : (rows next : List ℕ) (t : ℕ) → pair_count rows ≡ t + pair_count next → (t ≢ 0) → pair_count next < pair_count rows
  again_less rows next t d ne = omega arith

  pub again_next : (start rows next : List ℕ) (taken t : ℕ) → Again f a r k start rows taken → next ≡ f a r k rows → pair_count rows ≡ t + pair_count next → (t ≢ 0) → Again f a r k start next (taken + t)
  again_next start rows next taken t h e d ne =
      let p = ap pair_count e in
      record {
        counted = omega (arith, h.counted);
        same = h.same ∙ (more (pair_count rows) rows (omega arith) (λ z. ne (omega arith)) ∙ ap (λ (xs : List ℕ). repeat (pair_count xs) (f a r k) xs) (sym e));
        ill = λ q. e ∙ (ap (f a r k) (h.ill q) ∙ l.leaves a r k start q);
      }

  pub again_end : (start rows next : List ℕ) (taken t : ℕ) → Again f a r k start rows taken → next ≡ f a r k rows → pair_count rows ≡ t + pair_count next → t ≡ 0
      → (next ≡ repeat_meaning f a r k start) × (pair_count start ≡ taken + t + pair_count next)
  again_end start rows next taken t h e d z =
      let p = ap pair_count e in
      (e ∙ sym (h.same ∙ stop (pair_count rows) rows (omega arith)), omega (arith, h.counted))
