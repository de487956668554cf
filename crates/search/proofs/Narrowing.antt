-- The rows once a unit has taken a bay. Assumes nothing.
use Rattle.std.proofs.Common.{◌≡◌, ℕ, ◌+◌, ◌*◌, ◌%◌, ◌^◌, ◌<◌, ◌≤◌, Bool, true, false, not, ◌&&◌, eqb, ltb, List, length, get_or, set, sym, refl, ap, ◌∙◌, subst, ap₂, subst₂, inl, inr, arith}
use lib.Bits.{bit_and, bit_or}
use Rattle.std.proofs.lemmas.Nat.{one_shl}
use Rattle.std.proofs.lemmas.List.{length-set, get_or-set_same, get_or-set_other}
use Rattle.std.proofs.lemmas.List.FromFn.{length-map-range_with_len, get_or-map-range_with_len}
use Rattle.std.proofs.lemmas.List.Edits.{fill_by_more}
use Rattle.std.proofs.lemmas.Bool.{eq-eqb, ne_eqb, eqb-true, lt-ltb, le-ltb, cond-true, cond-false, cases_lt, cases_eq, cases_order, both_ways, and_parts, or_parts, not-false}
use Rattle.graphs.specs.Rows.{bit, row_of}
use Rattle.graphs.specs.Graph.{Graph}
use Rattle.graphs.proofs.Bits.{bit_of_and, bit_of_or, bit_bit, bit_bit_only}
use Rattle.graphs.proofs.Rows.{bit_row_of}
use Rattle.placements.specs.Agreement.{agrees, agrees_if}
use Rattle.filters.specs.Filter.{Inside, CutFrom, Lawful, shaped}
use Rattle.filters.specs.Shapes.{shaped_kept, bit_unit, shape_of}
use Rattle.search.specs.Walk.{narrowed_row, narrowed, Setting, filtered, after_try, LeftBy}

module _ (a r : Graph) (s : Bool) (u b : ℕ) (rows : List ℕ) where
  pub narrow_long : length (narrowed a r s u b rows) ≡ length rows
  narrow_long = length-map-range_with_len (narrowed_row a r s u b rows) 0 (length rows)

  pub narrow_at : (i : ℕ) → i < length rows → get_or (narrowed a r s u b rows) i 0 ≡ narrowed_row a r s u b rows i
  narrow_at i l = get_or-map-range_with_len (narrowed_row a r s u b rows) 0 (length rows) i i 0 l (omega arith)

  pub narrow_below : (i : ℕ) → i < u → narrowed_row a r s u b rows i ≡ get_or rows i 0
  narrow_below i l = cond-true (ltb i u) _ _ (lt-ltb i u l)

  pub narrow_here : narrowed_row a r s u b rows u ≡ 2 ^ b
  narrow_here = cond-false (ltb u u) _ _ (le-ltb u u (omega arith)) ∙ cond-true (eqb u u) _ _ (eq-eqb u u refl)

  pub narrow_above : (i : ℕ) → u < i → narrowed_row a r s u b rows i ≡ bit_and (get_or rows i 0) (row_of r.count (λ c. agrees a r s u b i c))
  narrow_above i l = cond-false (ltb i u) _ _ (le-ltb i u (omega arith)) ∙ cond-false (eqb i u) _ _ (ne_eqb i u (λ x. omega arith))

  -- a later row keeps what it held of the bays that agree
  pub above_holds : (i c : ℕ) → u < i → bit (narrowed_row a r s u b rows i) c ≡ true → (bit (get_or rows i 0) c ≡ true) × (agrees a r s u b i c ≡ true)
  above_holds i c l h =
      let mask : ℕ = row_of r.count (λ x. agrees a r s u b i x) in
      let both = and_parts (bit (get_or rows i 0) c) (bit mask c) (sym (bit_of_and (get_or rows i 0) mask c) ∙ ap (λ (x : ℕ). bit x c) (sym (narrow_above i l)) ∙ h) in
      (both.0, (and_parts (ltb c r.count) (agrees a r s u b i c) (sym (bit_row_of r.count (λ x. agrees a r s u b i x) c) ∙ both.1)).1)

  -- where the unit's row holds the bay, nothing is added
  pub narrow_inside : bit (get_or rows u 0) b ≡ true → Inside (narrowed a r s u b rows) rows
  narrow_inside held i c h =
      let l : i < length rows = (let k = bit_unit (narrowed a r s u b rows) i c h in omega (arith, narrow_long)) in
      let n : bit (narrowed_row a r s u b rows i) c ≡ true = ap (λ (x : ℕ). bit x c) (sym (narrow_at i l)) ∙ h in
      elim (cases_order i u) [
        | inl z ↦ let e : c ≡ b = bit_bit_only b c (ap (λ (x : ℕ). bit x c) (sym narrow_here) ∙ subst (λ (x : ℕ). bit (narrowed_row a r s u b rows x) c ≡ true) z n) in
            subst₂ (λ (x y : ℕ). bit (get_or rows x 0) y ≡ true) (sym z) (sym e) held
        | inr o ↦ elim o [
          | inl below ↦ ap (λ (x : ℕ). bit x c) (sym (narrow_below i below)) ∙ n
          | inr above ↦ (above_holds i c above n).0
        ]
      ]

-- ---- the loop that narrows

-- the rows below v are narrowed, those from v on as they were, and outside the set nothing has changed
pub record Narrows (f : ℕ → ℕ) (rows : List ℕ) (v : ℕ) (next : List ℕ) (changed : ℕ) : Type 0 where
  pub long : length next ≡ length rows
  pub done : (k : ℕ) → k < v → get_or next k 0 ≡ f k
  pub todo : (k : ℕ) → v ≤ k → get_or next k 0 ≡ get_or rows k 0
  pub same : (k : ℕ) → bit changed k ≡ false → get_or next k 0 ≡ get_or rows k 0

pub narrows_start : (a r : Graph) (s : Bool) (u b : ℕ) (rows next : List ℕ) → u < length rows → length rows ≤ 24 → b < 64 → next ≡ rows
    → Narrows (narrowed_row a r s u b rows) rows (u + 1) (set next u ((1 * 2 ^ b) % 18446744073709551616)) ((1 * 2 ^ u) % 18446744073709551616)
narrows_start a r s u b rows next l few lb e =
    let x : ℕ = (1 * 2 ^ b) % 18446744073709551616 in
    let one : (1 * 2 ^ u) % 18446744073709551616 ≡ 2 ^ u = one_shl u 64 (omega arith) in
    let away : (k : ℕ) → (k ≡ u → ⊥) → get_or (set next u x) k 0 ≡ get_or rows k 0 = λ k ne. get_or-set_other next u k x 0 ne ∙ ap (λ (t : List ℕ). get_or t k 0) e in
    let long : length next ≡ length rows = ap length e in
    record {
      long = length-set next u x ∙ long;
      done = λ k lk. elim (cases_eq k u) [
        | inl z ↦ ap (λ (j : ℕ). get_or (set next u x) j 0) z ∙ get_or-set_same next u x 0 (omega arith) ∙ one_shl b 64 lb ∙ sym (ap (narrowed_row a r s u b rows) z ∙ narrow_here a r s u b rows)
        | inr ne ↦ away k ne ∙ sym (narrow_below a r s u b rows k (omega arith))
      ];
      todo = λ k lk. away k (λ z. omega arith);
      same = λ k n. away k (λ z. both_ways _ n (subst₂ (λ (y j : ℕ). bit y j ≡ true) (sym one) (sym z) (bit_bit u)));
    }

pub narrows_more : (f : ℕ → ℕ) (rows : List ℕ) (v : ℕ) (next : List ℕ) (changed kept marked : ℕ) → v < length rows → Narrows f rows v next changed → kept ≡ f v
    → ((k : ℕ) → bit marked k ≡ false → (bit changed k ≡ false) × (k ≡ v → not (eqb kept (get_or rows v 0)) ≡ false))
    → Narrows f rows (v + 1) (set next v kept) marked
narrows_more f rows v next changed kept marked lv h is m =
    let l : v < length next = (let e = h.long in omega arith) in
    record {
      long = length-set next v kept ∙ h.long;
      done = λ k lk. ap (λ (x : ℕ). get_or (set next v x) k 0) is ∙ fill_by_more f next v 0 l h.done k lk;
      todo = λ k lk. get_or-set_other next v k kept 0 (λ z. omega arith) ∙ h.todo k (omega arith);
      same = λ k n. elim (cases_eq k v) [
        | inl z ↦ ap (λ (j : ℕ). get_or (set next v kept) j 0) z ∙ get_or-set_same next v kept 0 l
            ∙ eqb-true kept (get_or rows v 0) (not-false _ ((m k n).1 z)) ∙ ap (λ (j : ℕ). get_or rows j 0) (sym z)
        | inr ne ↦ get_or-set_other next v k kept 0 ne ∙ h.same k (m k n).0
      ];
    }

pub mark_in : (units v : ℕ) → v < 64 → (k : ℕ) → bit (bit_or units ((1 * 2 ^ v) % 18446744073709551616)) k ≡ false → (bit units k ≡ false) × (k ≡ v → ⊥)
mark_in units v l k e =
    let p = or_parts (bit units k) (bit ((1 * 2 ^ v) % 18446744073709551616) k) (sym (bit_of_or units ((1 * 2 ^ v) % 18446744073709551616) k) ∙ e) in
    (p.0, λ z. both_ways _ p.1 (subst₂ (λ (y j : ℕ). bit y j ≡ true) (sym (one_shl v 64 l)) (sym z) (bit_bit v)))

-- a unit's joints, read from a row
pub row_bit : (a : Graph) (p : ℕ → Bool) → ((v : ℕ) → a.count ≤ v → p v ≡ false) → (x v : ℕ) → x ≡ row_of a.count p → bit x v ≡ p v
row_bit a p out x v e =
    ap (λ (y : ℕ). bit y v) e ∙ bit_row_of a.count p v
    ∙ elim (cases_lt v a.count) [
      | inl l ↦ ap (λ (t : Bool). t && p v) (lt-ltb v a.count l)
      | inr l ↦ ap (λ (t : Bool). t && p v) (le-ltb v a.count l) ∙ sym (out v l)
    ]

pub row_kept : (a r : Graph) (s : Bool) (u b : ℕ) (rows : List ℕ) (v x : ℕ) (out back : Bool) → u < v → out ≡ a.joined u v → back ≡ a.joined v u
    → x ≡ row_of r.count (λ c. agrees_if r out back s b c) → bit_and (get_or rows v 0) x ≡ narrowed_row a r s u b rows v
row_kept a r s u b rows v x out back l eo eb e =
    ap (bit_and (get_or rows v 0)) (e ∙ ap₂ (λ (o k : Bool). row_of r.count (λ c. agrees_if r o k s b c)) eo eb) ∙ sym (narrow_above a r s u b rows v l)

-- ---- rows that the filter has left

module _ (w : Setting) (rows : List ℕ) (lawful : Lawful w.filter) (from : LeftBy w rows) where
  pub left_shaped : shaped w.arrangement w.room rows ≡ true
  left_shaped =
      subst (λ (x : List ℕ). shaped w.arrangement w.room x ≡ true) (sym from.is)
      (shaped_kept w.arrangement w.room from.before (filtered w from.before) from.shape
      (lawful.as_many w.arrangement w.room w.strict from.before)
      (lawful.adds_none w.arrangement w.room w.strict from.before))

  pub few_left : length rows ≤ 24
  few_left = let shape = shape_of w.arrangement w.room rows left_shaped in omega (arith, shape.many, shape.few)

  pub left_under : (u b : ℕ) → bit (get_or rows u 0) b ≡ true → b < w.room.count
  left_under = (shape_of w.arrangement w.room rows left_shaped).under

  module _ (u b : ℕ) (held : bit (get_or rows u 0) b ≡ true) where
    pub left_next : (part : List ℕ) → part ≡ after_try w u b rows → LeftBy w part
    left_next part e = record {
      before = narrowed w.arrangement w.room w.strict u b rows;
      shape = shaped_kept w.arrangement w.room rows (narrowed w.arrangement w.room w.strict u b rows) left_shaped
          (narrow_long w.arrangement w.room w.strict u b rows) (narrow_inside w.arrangement w.room w.strict u b rows held);
      is = e;
    }

    pub cut_from : (changed : ℕ) (next : List ℕ) → next ≡ narrowed w.arrangement w.room w.strict u b rows
        → ((v : ℕ) → bit changed v ≡ false → get_or next v 0 ≡ get_or rows v 0) → CutFrom (filtered w from.before) changed next
    cut_from changed next e same =
        let cut : CutFrom rows changed next = record {
          as_many = ap length e ∙ narrow_long w.arrangement w.room w.strict u b rows;
          inside = subst (λ (x : List ℕ). Inside x rows) (sym e) (narrow_inside w.arrangement w.room w.strict u b rows held);
          same = same;
        } in
        subst (λ (x : List ℕ). CutFrom x changed next) from.is cut
