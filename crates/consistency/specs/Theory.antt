-- Repeated sweeps leave the greatest supported rows. Assumes nothing.
use Rattle.std.specs.Prelude.{◌≡◌, ℕ, zero, suc, ◌^◌, ◌<◌, ◌≤◌, Bool, true, false, ◌&&◌, ◌||◌, ◌⊎◌, List, length, Decides, ◌==◌, ◌≢◌, nat_lt, slice_index, slice_index_or, refl}
use Rattle.std.proofs.Common.{sym, ap, subst, ◌∙◌, inl, inr, arith}
use Rattle.std.proofs.lemmas.List.FromFn.{length-map-range_with_len, get_or-map-range_with_len}
use Rattle.std.proofs.lemmas.List.{ext_get_or}
use Rattle.std.proofs.lemmas.Bool.Decides.{Decides-eqb, Decides-or}
use Rattle.std.proofs.lemmas.Bool.{both_ways, eqb-true, eqb-false, lt-ltb, cases_eq, cases_Bool, and_parts, and_from, cond-true, cond-false}
use Rattle.graphs.specs.Rows.{bit, pairs, row_of}
use Rattle.graphs.specs.Graph.{Graph}
use Rattle.graphs.proofs.Bits.{bit_none, bit_of_and, bits_below, same_rows}
use Rattle.graphs.proofs.Rows.{bit_row_of}
use Rattle.placements.specs.Agreement.{agrees}
use Rattle.placements.proofs.Masks.{bit_full}
use Rattle.placements.proofs.Deciding.{each_decides, some_decides, decides_itself}
use Rattle.placements.specs.Placement.{Placement, Within}
use Rattle.filters.specs.Filter.{shaped, pair_count, Inside, Lawful, CutFrom}
use Rattle.filters.specs.Composed.{repeat}
use Rattle.filters.specs.Counting.{pair_count_mono}
use Rattle.filters.specs.Shapes.{shape_of, shaped_kept, bit_unit, pair_count_same, all_below_at}
use Rattle.filters.specs.Laws.{repeat_lawful}
use Rattle.consistency.specs.Support.{Supported, SupportedBut, Greatest, AllOrNone, any_of, supported_by, swept_row, swept, sweep_meaning, support_meaning, SupportGreatest}

pub bool_ext : (s t : Bool) → (s ≡ true → t ≡ true) → (t ≡ true → s ≡ true) → s ≡ t
bool_ext true t f g = sym (f refl)
bool_ext false true f g = g refl
bool_ext false false f g = refl

-- some bay passes

pub record Some (row n : ℕ) (p : ℕ → Bool) : Type 0 where
  pub at : ℕ
  pub under : at < n
  pub held : bit row at ≡ true
  pub passes : p at ≡ true

any_decides : (row n : ℕ) (p : ℕ → Bool) → Decides (any_of row n p) ((c : ℕ) × (c < n) × ((bit row c && p c) ≡ true))
any_decides row n p = some_decides (λ c. bit row c && p c) (λ c. (bit row c && p c) ≡ true) (λ c. decides_itself (bit row c && p c)) n

pub any_has : (row n : ℕ) (p : ℕ → Bool) (c : ℕ) → c < n → bit row c ≡ true → p c ≡ true → any_of row n p ≡ true
any_has row n p c l h e = (any_decides row n p).1 (c, l, and_from (bit row c) (p c) h e)

pub any_some : (row n : ℕ) (p : ℕ → Bool) → any_of row n p ≡ true → Some row n p
any_some row n p e =
    let q = (any_decides row n p).0 e in
    let s = and_parts (bit row q.0) (p q.0) q.2 in
    record { at = q.0; under = q.1; held = s.0; passes = s.1 }

module _ (a r : Graph) (k : Bool) where
  abbrev agreeing : List ℕ → ℕ → ℕ → ℕ → Bool
  agreeing rows u b v = any_of (slice_index rows v) r.count (agrees a r k u b v)

  each_agrees : (rows : List ℕ) (u b m : ℕ) → Decides (supported_by a r k rows u b m) ((v : ℕ) → v < m → (u ≡ v) ⊎ (agreeing rows u b v ≡ true))
  each_agrees rows u b m =
      each_decides (λ v. (u == v) || agreeing rows u b v) (λ v. (u ≡ v) ⊎ (agreeing rows u b v ≡ true))
      (λ v. Decides-or (u == v) (agreeing rows u b v) (Decides-eqb u v) (decides_itself (agreeing rows u b v))) m

  by_each : (rows : List ℕ) (u b m : ℕ) → supported_by a r k rows u b m ≡ true → (v : ℕ) → v < m → (u ≢ v) → agreeing rows u b v ≡ true
  by_each rows u b m e v l ne = elim ((each_agrees rows u b m).0 e v l) [ inl z ↦ absurd (ne z) | inr t ↦ t ]

  by_all : (rows : List ℕ) (u b m : ℕ) → ((v : ℕ) → v < m → (u ≢ v) → agreeing rows u b v ≡ true) → supported_by a r k rows u b m ≡ true
  by_all rows u b m h = (each_agrees rows u b m).1 (λ v l. elim (cases_eq u v) [ inl z ↦ inl z | inr ne ↦ inr (h v l ne) ])

  swept_bit : (rows : List ℕ) (u b : ℕ) → u < length rows → bit (slice_index (swept a r k rows) u) b ≡ (bit (slice_index rows u) b && (nat_lt b r.count && supported_by a r k rows u b a.count))
  swept_bit rows u b l =
      ap (λ (x : ℕ). bit x b) (get_or-map-range_with_len (swept_row a r k rows) 0 (length rows) u u 0 l (omega arith))
      ∙ bit_of_and (slice_index rows u) (row_of r.count (λ c. supported_by a r k rows u c a.count)) b
      ∙ ap (λ (t : Bool). bit (slice_index rows u) b && t) (bit_row_of r.count (λ c. supported_by a r k rows u c a.count) b)

  swept_from : (rows : List ℕ) (u b : ℕ) → u < length rows → bit (slice_index rows u) b ≡ true → b < r.count → ((v : ℕ) → v < a.count → (u ≢ v) → agreeing rows u b v ≡ true) → bit (slice_index (swept a r k rows) u) b ≡ true
  swept_from rows u b l t h e =
      swept_bit rows u b l
      ∙ and_from (bit (slice_index rows u) b) (nat_lt b r.count && supported_by a r k rows u b a.count) t
      (and_from (nat_lt b r.count) (supported_by a r k rows u b a.count) (lt-ltb b r.count h) (by_all rows u b a.count e))

  swept_count : (rows : List ℕ) → length (swept a r k rows) ≡ length rows
  swept_count rows = length-map-range_with_len (swept_row a r k rows) 0 (length rows)

  swept_inside : (rows : List ℕ) → Inside (swept a r k rows) rows
  swept_inside rows u b t =
      let l : u < length rows = let z = bit_unit (swept a r k rows) u b t in omega (arith, swept_count rows) in
      (and_parts (bit (slice_index rows u) b) (nat_lt b r.count && supported_by a r k rows u b a.count) (sym (swept_bit rows u b l) ∙ t)).0

  swept_most : (rows other : List ℕ) → shaped a r rows ≡ true → Inside other rows → Supported a r k other → Inside other (swept a r k rows)
  swept_most rows other e w h u b t =
      let s = shape_of a r rows e in
      let lu = s.unit u b (w u b t) in
      swept_from rows u b (bit_unit rows u b (w u b t)) (w u b t) (s.under u b (w u b t))
      (λ v lv ne. let q = h u v lu lv ne b t in any_has (slice_index rows v) r.count (agrees a r k u b v) q.bay (s.under v q.bay (w v q.bay q.held)) (w v q.bay q.held) q.agreeing)

  swept_fix : (rows : List ℕ) → shaped a r rows ≡ true → swept a r k rows ≡ rows → Supported a r k rows
  swept_fix rows e f u v lu lv ne b t =
      let s = shape_of a r rows e in
      let p = (and_parts (bit (slice_index rows u) b) (nat_lt b r.count && supported_by a r k rows u b a.count)
      (sym (swept_bit rows u b (bit_unit rows u b t)) ∙ (ap (λ (xs : List ℕ). bit (slice_index xs u) b) f ∙ t))).1 in
      let q = (and_parts (nat_lt b r.count) (supported_by a r k rows u b a.count) p).1 in
      let x = any_some (slice_index rows v) r.count (agrees a r k u b v) (by_each rows u b a.count q v lv ne) in
      record { bay = x.at; held = x.held; agreeing = x.passes }

  abbrev F : List ℕ → List ℕ
  F = sweep_meaning a r k

  sweep_is : (rows : List ℕ) → shaped a r rows ≡ true → F rows ≡ swept a r k rows
  sweep_is rows e = cond-true (shaped a r rows) (swept a r k rows) rows e

  sweep_not : (rows : List ℕ) → shaped a r rows ≡ false → F rows ≡ rows
  sweep_not rows e = cond-false (shaped a r rows) (swept a r k rows) rows e

  sweep_count : (rows : List ℕ) → length (F rows) ≡ length rows
  sweep_count rows =
      elim (cases_Bool (shaped a r rows)) [
        | inl e ↦ ap length (sweep_is rows e) ∙ swept_count rows
        | inr e ↦ ap length (sweep_not rows e)
      ]

  sweep_inside : (rows : List ℕ) → Inside (F rows) rows
  sweep_inside rows u b t =
      elim (cases_Bool (shaped a r rows)) [
        | inl e ↦ swept_inside rows u b (sym (ap (λ (xs : List ℕ). bit (slice_index xs u) b) (sweep_is rows e)) ∙ t)
        | inr e ↦ sym (ap (λ (xs : List ℕ). bit (slice_index xs u) b) (sweep_not rows e)) ∙ t
      ]

  sweep_keeps : (rows w : List ℕ) → Placement a r k w → Within (pairs rows) w → Within (pairs (F rows)) w
  sweep_keeps rows w h i u l =
      let lu : u < a.count = omega (arith, h.whole) in
      elim (cases_Bool (shaped a r rows)) [
        | inl e ↦ ap (λ (xs : List ℕ). bit (slice_index xs u) (slice_index w u)) (sweep_is rows e)
            ∙ swept_from rows u (slice_index w u) (bit_unit rows u (slice_index w u) (i u l)) (i u l) (h.on_bays u lu)
            (λ v lv ne. any_has (slice_index rows v) r.count (agrees a r k u (slice_index w u) v) (slice_index w v) (h.on_bays v lv) (i v (omega (arith, h.whole))) (h.agree u v lu lv ne))
        | inr e ↦ ap (λ (xs : List ℕ). bit (slice_index xs u) (slice_index w u)) (sweep_not rows e) ∙ i u l
      ]

  sweep_shaped : (rows : List ℕ) → shaped a r rows ≡ true → shaped a r (F rows) ≡ true
  sweep_shaped rows e = shaped_kept a r rows (F rows) e (sweep_count rows) (sweep_inside rows)

  sweep_same : (rows : List ℕ) → shaped a r rows ≡ true → pair_count rows ≤ pair_count (F rows) → F rows ≡ rows
  sweep_same rows e z = pair_count_same r.count (F rows) rows (sweep_count rows) (shape_of a r rows e).rest (sweep_inside rows) (omega arith)

  repeat_fix : (n : ℕ) (rows : List ℕ) → pair_count rows ≤ n → shaped a r rows ≡ true → F (repeat n F rows) ≡ repeat n F rows
  repeat_fix zero rows l e = ap F (sweep_same rows e (omega arith))
  repeat_fix (suc n) rows l e =
      elim (cases_Bool (pair_count (F rows) == pair_count rows)) [
        | inl t ↦ subst (λ (xs : List ℕ). F xs ≡ xs) (sym (cond-true (pair_count (F rows) == pair_count rows) (F rows) (repeat n F (F rows)) t)) (ap F (sweep_same rows e (omega (arith, eqb-true (pair_count (F rows)) (pair_count rows) t))))
        | inr t ↦ let d = eqb-false (pair_count (F rows)) (pair_count rows) t in
            let m = pair_count_mono (F rows) rows (sweep_count rows) (sweep_inside rows) in
            subst (λ (xs : List ℕ). F xs ≡ xs) (sym (cond-false (pair_count (F rows) == pair_count rows) (F rows) (repeat n F (F rows)) t)) (repeat_fix n (F rows) (omega arith) (sweep_shaped rows e))
      ]

  repeat_most : (n : ℕ) (rows other : List ℕ) → shaped a r rows ≡ true → Inside other rows → Supported a r k other → Inside other (repeat n F rows)
  repeat_most n rows other e w h = go n rows e w
    where
      one : (xs : List ℕ) → shaped a r xs ≡ true → Inside other xs → Inside other (F xs)
      one xs x y u b t = ap (λ (zs : List ℕ). bit (slice_index zs u) b) (sweep_is xs x) ∙ swept_most xs other x y h u b t

      go : (n : ℕ) (xs : List ℕ) → shaped a r xs ≡ true → Inside other xs → Inside other (repeat n F xs)
      go zero xs x y = one xs x y
      go (suc m) xs x y =
          elim (cases_Bool (pair_count (F xs) == pair_count xs)) [
            | inl t ↦ subst (Inside other) (sym (cond-true (pair_count (F xs) == pair_count xs) (F xs) (repeat m F (F xs)) t)) (one xs x y)
            | inr t ↦ subst (Inside other) (sym (cond-false (pair_count (F xs) == pair_count xs) (F xs) (repeat m F (F xs)) t)) (go m (F xs) (sweep_shaped xs x) (one xs x y))
          ]

pub sweep_lawful : Lawful sweep_meaning
sweep_lawful = record {
  as_many = λ a r k rows. sweep_count a r k rows;
  adds_none = λ a r k rows u b t. sweep_inside a r k rows u b t;
  keeps = λ a r k rows w sa sr h i. sweep_keeps a r k rows w h i;
  leaves = λ a r k rows e. sweep_not a r k rows e;
}

pub support_lawful : Lawful support_meaning
support_lawful = repeat_lawful sweep_meaning sweep_lawful

pub support_greatest : SupportGreatest
support_greatest a r k rows e =
    let y = support_meaning a r k rows in
    let n = support_lawful.as_many a r k rows in
    let w = support_lawful.adds_none a r k rows in
    let x : shaped a r y ≡ true = shaped_kept a r rows y e n w in
    record {
      as_many = n;
      inside = w;
      supported = swept_fix a r k y x (sym (sweep_is a r k y x) ∙ repeat_fix a r k (pair_count rows) rows (omega arith) e);
      most = λ other i h. repeat_most a r k (pair_count rows) rows other e i h;
    }

-- there is one greatest
pub greatest_one : (a r : Graph) (k : Bool) (shown xs ys : List ℕ) → shaped a r shown ≡ true → Greatest a r k shown xs → Greatest a r k shown ys → xs ≡ ys
greatest_one a r k shown xs ys e x y =
    let sx = shape_of a r xs (shaped_kept a r shown xs e x.as_many x.inside) in
    let sy = shape_of a r ys (shaped_kept a r shown ys e y.as_many y.inside) in
    ext_get_or 0 xs ys (x.as_many ∙ sym y.as_many)
    (λ u l. same_rows r.count (slice_index xs u) (slice_index ys u) (all_below_at r.count xs sx.rest u) (all_below_at r.count ys sy.rest u)
    (λ b. bool_ext (bit (slice_index xs u) b) (bit (slice_index ys u) b) (y.most xs x.inside x.supported u b) (x.most ys y.inside y.supported u b)))

-- the greatest supported rows are what the filter leaves
pub meaning_is : (a r : Graph) (k : Bool) (shown rows : List ℕ) → shaped a r shown ≡ true → Greatest a r k shown rows → rows ≡ support_meaning a r k shown
meaning_is a r k shown rows e h = greatest_one a r k shown rows (support_meaning a r k shown) e h (support_greatest a r k shown e)

pub all_or_none : (a r : Graph) (k : Bool) (shown rows : List ℕ) → shaped a r shown ≡ true → Greatest a r k shown rows → AllOrNone rows
all_or_none a r k shown rows e h u v lu z =
    let s = shape_of a r shown e in
    let n : slice_index_or rows v 0 < 2 ^ 0 = bits_below 0 (slice_index rows v) (λ b t. absurd (
    elim (cases_eq v u) [
      | inl y ↦ both_ways (bit (slice_index rows v) b) (ap (λ (w : ℕ). bit (slice_index rows w) b) y ∙ (ap (λ (x : ℕ). bit x b) z ∙ bit_none b)) t
      | inr ny ↦
          let g = h.supported v u (s.unit v b (h.inside v b t)) (omega (arith, h.as_many, s.many)) ny b t in
          both_ways (bit (slice_index rows u) g.bay) (ap (λ (x : ℕ). bit x g.bay) z ∙ bit_none g.bay) g.held
    ])) in
    omega arith

-- rows cut from supported ones: every pair still has its supports at the units whose rows are as they were
pub cut_supported : (a r : Graph) (k : Bool) (base rows : List ℕ) (changed : ℕ) → Supported a r k base → CutFrom base changed rows → SupportedBut a r k changed rows
cut_supported a r k base rows changed s h u v lu lv ne out b t =
    let g = s u v lu lv ne b (h.inside u b t) in
    record { bay = g.bay; held = ap (λ (x : ℕ). bit x g.bay) (h.same v out) ∙ g.held; agreeing = g.agreeing }

-- and so what they settle at is what the filter leaves of them
pub resumed : (a r : Graph) (k : Bool) (before rows last : List ℕ) (changed : ℕ) → shaped a r before ≡ true → CutFrom (support_meaning a r k before) changed rows
    → (shaped a r rows ≡ true → SupportedBut a r k changed rows → Greatest a r k rows last) → last ≡ support_meaning a r k rows
resumed a r k before rows last changed e h f =
    let g = support_greatest a r k before e in
    let base = support_meaning a r k before in
    let eb : shaped a r base ≡ true = shaped_kept a r before base e g.as_many g.inside in
    let er : shaped a r rows ≡ true = shaped_kept a r base rows eb h.as_many h.inside in
    meaning_is a r k rows last er (f er (cut_supported a r k base rows changed g.supported h))

-- nothing is known of the rows where all units are in the set
pub all_changed : (a r : Graph) (k : Bool) (rows : List ℕ) → a.count ≤ 64 → SupportedBut a r k 18446744073709551615 rows
all_changed a r k rows l u v lu lv ne o = absurd (both_ways (bit 18446744073709551615 v) o (bit_full v (omega arith)))
