-- The work list: units whose rows the others must still be checked against. Assumes nothing.
use Rattle.std.proofs.Common.{◌≡◌, ℕ, ◌+◌, ◌-◌, ◌*◌, ◌/◌, ◌%◌, ◌^◌, ◌<◌, ◌≤◌, Bool, true, false, cond, not, ◌&&◌, eqb, ltb, List, Option, Some, None, length, get_or, replicate, sym, refl, ap, ◌∙◌, subst, inl, inr, arith, pow_mono}
use lib.Bits.{bit_and, bit_or, and_le_r, or_zero_r}
use lib.Count.{count_trailing_zeros}
use Rattle.std.proofs.lemmas.Option.{MatchOption-at_some, MatchOption-at_none}
use Rattle.std.proofs.lemmas.Bool.{both_ways, false≢true, ltb-true, lt-ltb, eq-eqb, ne_eqb, cases_eq, cases_Bool, and_parts, and_from, or_cases, not-true, not_from_false}
use Rattle.graphs.specs.Rows.{bit, row_of}
use Rattle.graphs.specs.Graph.{Graph}
use Rattle.graphs.proofs.Bits.{bit_none, bit_of_or, bit_lowest, bits_below}
use Rattle.graphs.proofs.Rows.{bit_row_of}
use Rattle.placements.specs.Agreement.{agrees_if, agrees}
use Rattle.placements.proofs.Masks.{bit_full, others_low}
use Rattle.filters.specs.Filter.{shaped, pair_count, Inside}
use Rattle.filters.specs.Shapes.{shape_of, shaped_kept}
use Rattle.placements.specs.declared.Joined.{Joined}
use Rattle.consistency.specs.Cut.{CutTo, CutWhole}
use Rattle.consistency.specs.Support.{Arc, SupportedBut, Greatest, any_of, revised}
use Rattle.consistency.specs.Theory.{any_has, any_some}
use Rattle.graphs.proofs.Lowest.{lowest_off}
use Rattle.consistency.proofs.Lowest.{bit_mask}
use Rattle.consistency.proofs.Cuts.{or_none}
use Rattle.consistency.proofs.Steps.{Thinned, thin_none, thin_both, thin_fewer, cleared}

-- the classes of the other units by their joints to and from one unit, in the order in which they are gone through
pub code : Bool → Bool → ℕ
code out back = cond out 1 0 + cond back 2 0

pub code_below : (s t : Bool) → code s t < 4
unfolding code
code_below true true = omega arith
code_below true false = omega arith
code_below false true = omega arith
code_below false false = omega arith

-- the way of a number
abbrev pub way : ℕ → Joined
way n = record { out = eqb (n % 2) 1; back = eqb (n / 2) 1 }

code_way : (n : ℕ) (s t : Bool) → code s t ≡ n → (s ≡ (way n).out) × (t ≡ (way n).back)
unfolding code
code_way n s t e = subst (λ (m : ℕ). (s ≡ (way m).out) × (t ≡ (way m).back)) e (go s t)
  where
    go : (s t : Bool) → (s ≡ (way (cond s 1 0 + cond t 2 0)).out) × (t ≡ (way (cond s 1 0 + cond t 2 0)).back)
    go true true = (refl, refl)
    go true false = (refl, refl)
    go false true = (refl, refl)
    go false false = (refl, refl)

is_of : (s t : Bool) → cond s t (not t) ≡ true → t ≡ s
is_of true t e = e
is_of false true e = absurd (false≢true e)
is_of false false e = refl

of_is : (s t : Bool) → t ≡ s → cond s t (not t) ≡ true
of_is true t e = e
of_is false t e = ap not e

-- the units of one class of the units other than v
pub record Class (a : Graph) (v : ℕ) (out back : Bool) (units : ℕ) : Type 0 where
  pub below : (u : ℕ) → bit units u ≡ true → u < a.count
  pub other : (u : ℕ) → bit units u ≡ true → u ≡ v → ⊥
  pub joined_to : (u : ℕ) → bit units u ≡ true → a.joined u v ≡ out
  pub joined_from : (u : ℕ) → bit units u ≡ true → a.joined v u ≡ back
  pub each : (u : ℕ) → u < a.count → (u ≡ v → ⊥) → a.joined u v ≡ out → a.joined v u ≡ back → bit units u ≡ true

pub class_is : (a r : Graph) (rows : List ℕ) → shaped a r rows ≡ true → {v : ℕ} → v < a.count → {out back : Bool} {from to units : ℕ}
    → from ≡ row_of a.count (λ u. a.joined u v) → to ≡ row_of a.count (λ u. a.joined v u)
    → ((u : ℕ) → bit units u ≡ (bit (bit_and (18446744073709551615 / 2 ^ (64 - length rows)) (18446744073709551615 - (1 * 2 ^ v) % 18446744073709551616)) u
    && (cond out (bit from u) (not (bit from u)) && cond back (bit to u) (not (bit to u)))))
    → Class a v out back units
class_is a r rows e {v} lv {out} {back} {from} {to} {units} ef et is =
    let s = shape_of a r rows e in
    let m : ℕ = length rows in
    let others : ℕ → Bool = λ u. bit (bit_and (18446744073709551615 / 2 ^ (64 - m)) (18446744073709551615 - (1 * 2 ^ v) % 18446744073709551616)) u in
    let x : ℕ → Bool = λ u. cond out (bit from u) (not (bit from u)) in
    let y : ℕ → Bool = λ u. cond back (bit to u) (not (bit to u)) in
    let split : (u : ℕ) → bit units u ≡ true → (others u ≡ true) × (x u && y u) ≡ true = λ u t. and_parts (others u) (x u && y u) (sym (is u) ∙ t) in
    let part : (u : ℕ) → bit units u ≡ true → (ltb u m ≡ true) × (not (eqb u v) ≡ true) = λ u t. and_parts (ltb u m) (not (eqb u v)) (sym (others_low m v (omega (arith, s.many, s.few)) (omega (arith, s.few)) u) ∙ (split u t).0) in
    let under : (u : ℕ) → bit units u ≡ true → u < a.count = λ u t. omega (arith, s.many, ltb-true u m (part u t).0) in
    let row : (p : ℕ → Bool) (w u : ℕ) → w ≡ row_of a.count p → u < a.count → bit w u ≡ p u = λ p w u e l.
    ap (λ (z : ℕ). bit z u) e ∙ (bit_row_of a.count p u ∙ ap (λ (s : Bool). s && p u) (lt-ltb u a.count l)) in
    record {
      below = under;
      other = λ u t z. both_ways (eqb u v) (not-true (eqb u v) (part u t).1) (eq-eqb u v z);
      joined_to = λ u t. sym (row (λ w. a.joined w v) from u ef (under u t)) ∙ is_of out (bit from u) (and_parts (x u) (y u) (split u t).1).0;
      joined_from = λ u t. sym (row (λ w. a.joined v w) to u et (under u t)) ∙ is_of back (bit to u) (and_parts (x u) (y u) (split u t).1).1;
      each = λ u l ne eo eb. is u ∙ and_from (others u) (x u && y u)
          (others_low m v (omega (arith, s.many, s.few)) (omega (arith, s.few)) u ∙ and_from (ltb u m) (not (eqb u v)) (lt-ltb u m (omega (arith, s.many))) (not_from_false (eqb u v) (ne_eqb u v ne)))
          (and_from (x u) (y u)
          (of_is out (bit from u) (row (λ w. a.joined w v) from u ef l ∙ eo))
          (of_is back (bit to u) (row (λ w. a.joined v w) to u et l ∙ eb)));
    }

-- one turn of the outer loop: v was taken out of the work list `old`, and rows were xs; now the classes below `class` are done
pub record Turned (a r : Graph) (k : Bool) (v : ℕ) (xs : List ℕ) (old : ℕ) (ys : List ℕ) (changed class : ℕ) : Type 0 where
  pub thin : Thinned a r k xs ys
  pub here : get_or ys v 0 ≡ get_or xs v 0
  pub kept : (w : ℕ) → bit changed w ≡ false → (bit old w ≡ false) × (get_or ys w 0 ≡ get_or xs w 0)
  pub within : (w : ℕ) → bit changed w ≡ true → w < a.count
  pub arcs : (u : ℕ) → u < a.count → (u ≡ v → ⊥) → code (a.joined u v) (a.joined v u) < class → Arc a r k ys u v
  pub still : pair_count ys ≡ pair_count xs → changed ≡ old

-- between turns
pub record Sweeping (a r : Graph) (k : Bool) (first : ℕ) (shown rows : List ℕ) (changed : ℕ) : Type 0 where
  pub thin : Thinned a r k shown rows
  pub within : (w : ℕ) → bit changed w ≡ true → w < a.count
  pub but : SupportedBut a r k first shown → SupportedBut a r k changed rows

module _ (a r : Graph) (k : Bool) where
  arc_kept : (ys zs : List ℕ) (u w : ℕ) → Inside zs ys → get_or zs w 0 ≡ get_or ys w 0 → Arc a r k ys u w → Arc a r k zs u w
  arc_kept ys zs u w i e h b t =
      let g = h b (i u b t) in
      record { bay = g.bay; held = ap (λ (x : ℕ). bit x g.bay) e ∙ g.held; agreeing = g.agreeing }

  keep_any : (out back : Bool) (row other b : ℕ) → bit (revised r out back k row other) b ≡ true → any_of other r.count (agrees_if r out back k b) ≡ true
  keep_any out back row other b t =
      let p = and_parts (ltb b r.count) (bit row b && any_of other r.count (agrees_if r out back k b))
      (sym (bit_row_of r.count (λ c. bit row c && any_of other r.count (agrees_if r out back k c)) b) ∙ t) in
      (and_parts (bit row b) (any_of other r.count (agrees_if r out back k b)) p.1).1

  any_keep : r.count ≤ 64 → (out back : Bool) (other b : ℕ) → b < r.count → any_of other r.count (agrees_if r out back k b) ≡ true
      → bit (revised r out back k 18446744073709551615 other) b ≡ true
  any_keep few out back other b l e =
      bit_row_of r.count (λ c. bit 18446744073709551615 c && any_of other r.count (agrees_if r out back k c)) b
      ∙ and_from (ltb b r.count) (bit 18446744073709551615 b && any_of other r.count (agrees_if r out back k b)) (lt-ltb b r.count l)
      (and_from (bit 18446744073709551615 b) (any_of other r.count (agrees_if r out back k b)) (bit_full b (omega arith)) e)

  module _ {v : ℕ} (lv : v < a.count) {out back : Bool} {units : ℕ} (cl : Class a v out back units) {ys zs : List ℕ} {cut : Option ℕ}
      (len : length zs ≡ length ys) (sh : shaped a r ys ≡ true) (h : CutTo units (revised r out back k 18446744073709551615 (get_or ys v 0)) ys zs cut) where
    -- the supports that the class has at v, in the terms of its joints
    agree_is : (u b c : ℕ) → bit units u ≡ true → agrees a r k u b v c ≡ agrees_if r out back k b c
    agree_is u b c t =
        ap (λ (s : Bool). agrees_if r s (a.joined v u) k b c) (cl.joined_to u t) ∙ ap (λ (s : Bool). agrees_if r out s k b c) (cl.joined_from u t)

    pub cut_thin : r.count ≤ 64 → Thinned a r k ys zs
    cut_thin few =
        let s = shape_of a r ys sh in
        record {
          shape = shaped_kept a r ys zs sh len h.inside;
          many = len;
          inside = h.inside;
          most = λ other su i w b t. h.keeps w b (i w b t) (λ tu.
              let g = su w v (cl.below w tu) lv (cl.other w tu) b t in
              any_keep few out back (get_or ys v 0) b (s.under w b (i w b t))
              (any_has (get_or ys v 0) r.count (agrees_if r out back k b) g.bay (s.under v g.bay (i v g.bay g.held)) (i v g.bay g.held)
              (sym (agree_is w b g.bay tu) ∙ g.agreeing)));
        }

    module _ {n : ℕ} (whole : CutWhole units (revised r out back k 18446744073709551615 (get_or ys v 0)) ys zs n) where
      pub cut_here : get_or zs v 0 ≡ get_or ys v 0
      cut_here = whole.same v (elim (cases_Bool (bit n v)) [
        | inl t ↦ absurd (cl.other v (whole.only v t) refl)
        | inr t ↦ t
      ])

      pub cut_arc : (u : ℕ) → bit units u ≡ true → Arc a r k zs u v
      cut_arc u tu b t =
          let q = any_some (get_or ys v 0) r.count (agrees_if r out back k b) (keep_any out back 18446744073709551615 (get_or ys v 0) b (whole.cuts u b tu t)) in
          record { bay = q.at; held = ap (λ (x : ℕ). bit x q.at) cut_here ∙ q.held; agreeing = agree_is u b q.at tu ∙ q.passes }

abbrev next : ℕ → ℕ
next changed = bit_and changed (changed - 1)

changed_fits : (n changed : ℕ) → n ≤ 24 → ((w : ℕ) → bit changed w ≡ true → w < n) → changed < 2 ^ 64
changed_fits n changed few h = let b = bits_below n changed h in let m : 2 ^ n ≤ 2 ^ 64 = pow_mono (let l : n ≤ 64 = omega arith in l) in omega arith

next_parts : (changed w : ℕ) → 0 < changed → changed < 2 ^ 64 → bit (next changed) w ≡ true → bit changed w ≡ true
next_parts changed w l f t = (and_parts (bit changed w) (not (eqb w (count_trailing_zeros 64 changed))) (sym (lowest_off 64 changed l f w) ∙ t)).0

module _ {a r : Graph} {k : Bool} where
  -- each turn leaves fewer pairs, or as many and a shorter work list
  pub turn_less : {xs ys : List ℕ} {changed now class : ℕ} → 0 < changed
      → Turned a r k (count_trailing_zeros 64 changed) xs (next changed) ys now class
      → 18446744073709551616 * pair_count ys + now < 18446744073709551616 * pair_count xs + changed
  turn_less {xs} {ys} {changed} {now} l t =
      let m = thin_fewer a r k xs ys t.thin in
      let f = changed_fits a.count now (shape_of a r ys t.thin.shape).few t.within in
      elim (cases_eq (pair_count ys) (pair_count xs)) [
        | inl e ↦ omega (arith, t.still e, and_le_r changed (changed - 1))
        | inr ne ↦ omega arith
      ]

  module _ {first : ℕ} {shown : List ℕ} where
    -- the unit that is taken out of the work list
    pub lowest_unit : {xs : List ℕ} {changed : ℕ} → Sweeping a r k first shown xs changed → 0 < changed
        → (count_trailing_zeros 64 changed < a.count) × (count_trailing_zeros 64 changed < length xs)
    lowest_unit {xs} {changed} h l =
        let v : ℕ = count_trailing_zeros 64 changed in
        let lv : v < a.count = h.within v (bit_lowest 64 changed l (changed_fits a.count changed (shape_of a r xs h.thin.shape).few h.within)) in
        (lv, omega (arith, (shape_of a r xs h.thin.shape).many))

    pub turn_start : {xs : List ℕ} {changed : ℕ} → Sweeping a r k first shown xs changed → 0 < changed
        → Turned a r k (count_trailing_zeros 64 changed) xs (next changed) xs (next changed) 0
    turn_start {xs} {changed} h l = record {
      thin = thin_none a r k xs h.thin.shape;
      here = refl;
      kept = λ w t. (t, refl);
      within = λ w t. h.within w (next_parts changed w l (changed_fits a.count changed (shape_of a r xs h.thin.shape).few h.within) t);
      arcs = λ u lu ne c. absurd (omega arith);
      still = λ e. refl;
    }

    -- all classes are done
    pub turn_end : {xs ys : List ℕ} {changed now class : ℕ} → Sweeping a r k first shown xs changed → 0 < changed
        → Turned a r k (count_trailing_zeros 64 changed) xs (next changed) ys now class → class ≡ 4 → Sweeping a r k first shown ys now
    turn_end {xs} {ys} {changed} {now} h l t e =
        let v : ℕ = count_trailing_zeros 64 changed in
        let f = changed_fits a.count changed (shape_of a r xs h.thin.shape).few h.within in
        record {
          thin = thin_both a r k shown xs ys h.thin t.thin;
          within = t.within;
          but = λ p u w lu lw ne o. elim (cases_eq w v) [
            | inl z ↦ subst (λ (n : ℕ). Arc a r k ys u n) (sym z)
                (t.arcs u lu (λ q. ne (q ∙ sym z)) (let c = code_below (a.joined u v) (a.joined v u) in omega arith))
            | inr nz ↦
                let q = t.kept w o in
                arc_kept a r k xs ys u w t.thin.inside q.1 (h.but p u w lu lw ne
                (elim (cases_Bool (bit changed w)) [
                  | inl s ↦ absurd (both_ways (bit (next changed) w) q.0
                      (lowest_off 64 changed l f w ∙ and_from (bit changed w) (not (eqb w v)) s (not_from_false (eqb w v) (ne_eqb w v nz))))
                  | inr s ↦ s
                ]))
          ];
        }

    -- the work list is empty
    pub sweep_end : {rows : List ℕ} {changed : ℕ} → Sweeping a r k first shown rows changed → changed ≡ 0
        → SupportedBut a r k first shown → Greatest a r k shown rows
    sweep_end h z p = record {
      as_many = h.thin.many;
      inside = h.thin.inside;
      supported = λ u v lu lv ne. h.but p u v lu lv ne (ap (λ (x : ℕ). bit x v) z ∙ bit_none v);
      most = λ other i s. h.thin.most other s i;
    }

    pub sweep_start : shaped a r shown ≡ true → Sweeping a r k first shown shown (bit_and first (18446744073709551615 / 2 ^ (64 - length shown)))
    sweep_start e =
        let m : ℕ = length shown in
        let n = (shape_of a r shown e).many in
        let lm : m ≤ 64 = omega (arith, (shape_of a r shown e).few) in
        record {
          thin = thin_none a r k shown e;
          within = λ w t. let q = ltb-true w m (and_parts (bit first w) (ltb w m) (sym (bit_mask m first w lm) ∙ t)).1 in omega arith;
          but = λ p u v lu lv ne o. p u v lu lv ne
              (elim (cases_Bool (bit first v)) [
                | inl s ↦ absurd (both_ways (bit (bit_and first (18446744073709551615 / 2 ^ (64 - m))) v) o
                    (bit_mask m first v lm ∙ and_from (bit first v) (ltb v m) s (lt-ltb v m (omega arith))))
                | inr s ↦ s
              ]);
        }

  module _ (few : r.count ≤ 64) {v : ℕ} (lv : v < a.count) {xs ys : List ℕ} {old changed class : ℕ} (t : Turned a r k v xs old ys changed class)
      {units : ℕ} (cl : Class a v (way class).out (way class).back units) {zs : List ℕ} {cut : Option ℕ} (len : length zs ≡ length ys)
      (h : CutTo units (revised r (way class).out (way class).back k 18446744073709551615 (get_or xs v 0)) ys zs cut) where
    cut_now : CutTo units (revised r (way class).out (way class).back k 18446744073709551615 (get_or ys v 0)) ys zs cut
    cut_now = subst (λ (n : ℕ). CutTo units (revised r (way class).out (way class).back k 18446744073709551615 n) ys zs cut) (sym t.here) h

    turn_thin : Thinned a r k xs zs
    turn_thin = thin_both a r k xs ys zs t.thin (cut_thin a r k lv cl len t.thin.shape cut_now few)

    -- a row became empty
    pub turn_short : {shown last : List ℕ} → shaped a r shown ≡ true → Thinned a r k shown xs → cut ≡ None → last ≡ replicate (length zs) 0
        → Greatest a r k shown last
    turn_short {shown} {last} e s o la =
        cleared a r k shown zs last e (thin_both a r k shown xs zs s turn_thin)
        (MatchOption-at_none _ _ o h.cases) la

    -- none did
    pub turn_more : (n : ℕ) → cut ≡ Some n → Turned a r k v xs old zs (bit_or changed n) (class + 1)
    turn_more n o =
        let whole : CutWhole units (revised r (way class).out (way class).back k 18446744073709551615 (get_or ys v 0)) ys zs n = MatchOption-at_some _ _ n o cut_now.cases in
        let here : get_or zs v 0 ≡ get_or ys v 0 = cut_here a r k lv cl len t.thin.shape cut_now whole in
        record {
          thin = turn_thin;
          here = here ∙ t.here;
          kept = λ w o.
              let q = or_none (bit changed w) (bit n w) (sym (bit_of_or changed n w) ∙ o) in
              let p = t.kept w q.0 in
              (p.0, whole.same w q.1 ∙ p.1);
          within = λ w o. elim (or_cases (bit changed w) (bit n w) (sym (bit_of_or changed n w) ∙ o)) [
            | inl s ↦ t.within w s
            | inr s ↦ cl.below w (whole.only w s)
          ];
          arcs = λ u lu ne c. elim (cases_eq class (code (a.joined u v) (a.joined v u))) [
            | inl z ↦
                let q = code_way class (a.joined u v) (a.joined v u) (sym z) in
                cut_arc a r k lv cl len t.thin.shape cut_now whole u (cl.each u lu ne q.0 q.1)
            | inr nz ↦ arc_kept a r k ys zs u v h.inside here (t.arcs u lu ne (omega arith))
          ];
          still = λ z.
              let up = thin_fewer a r k xs ys t.thin in
              let more = thin_fewer a r k ys zs (cut_thin a r k lv cl len t.thin.shape cut_now few) in
              ap (λ (m : ℕ). bit_or changed m) (whole.still (omega arith)) ∙ or_zero_r changed ∙ t.still (omega arith);
        }
