-- The rows of some units cut to the bays of one row, from the lowest unit on. Assumes nothing.
use Rattle.std.proofs.Common.{◌≡◌, ℕ, ◌-◌, ◌*◌, ◌/◌, ◌%◌, ◌^◌, ◌<◌, ◌≤◌, Bool, true, false, not, ◌||◌, eqb, ◌⊎◌, List, Some, None, length, get_or, set, sym, refl, ap, ◌∙◌, inl, inr, arith, length-set, get_or-set_other, get_or-set_same}
use lib.Bits.{bit_and, bit_or}
use lib.Count.{ones}
use Rattle.std.proofs.lemmas.Nat.{one_shl}
use Rattle.std.proofs.lemmas.Bool.{both_ways, eqb-true, eq-eqb, ne_eqb, cases_eq, cases_lt, lt-ltb, cases_Bool, and_parts, and_from, or_cases, not_from_false}
use Rattle.graphs.specs.Rows.{bit, pairs}
use Rattle.graphs.proofs.Bits.{bit_none, bit_of_and, bit_of_or, bit_one, bit_below}
use Rattle.graphs.proofs.Rows.{bit_all}
use Rattle.filters.specs.Filter.{Inside, pair_count, all_below}
use Rattle.filters.specs.Shapes.{all_below_at}
use Rattle.filters.specs.Counting.{Part, ones_same, below_pow, pair_count_mono}
use Rattle.consistency.specs.Cut.{CutTo}
use Rattle.graphs.proofs.Lowest.{Turn}
use Rattle.consistency.proofs.Steps.{pair_count_set}

-- the rows of the units that are not among the rest are cut
pub record Cutting (units keep : ℕ) (before : List ℕ) (rest : ℕ) (rows : List ℕ) (changed : ℕ) : Type 0 where
  pub many : length rows ≡ length before
  pub left : (u : ℕ) → bit rest u ≡ true → bit units u ≡ true
  pub inside : Inside rows before
  pub keeps : (u b : ℕ) → pairs before u b ≡ true → (bit units u ≡ true → bit keep b ≡ true) → pairs rows u b ≡ true
  pub cuts : (u b : ℕ) → bit units u ≡ true → bit rest u ≡ false → pairs rows u b ≡ true → bit keep b ≡ true
  pub same : (u : ℕ) → bit changed u ≡ false → get_or rows u 0 ≡ get_or before u 0
  pub only : (u : ℕ) → bit changed u ≡ true → bit units u ≡ true
  pub still : pair_count rows ≡ pair_count before → changed ≡ 0

-- a row that is cut has fewer bays
ones_less : (row keep : ℕ) → (bit_and row keep ≡ row → ⊥) → ones (bit_and row keep) < ones row
ones_less row keep ne =
    let x : ℕ = bit_and row keep in
    let part : Part x row = λ b t. (and_parts (bit row b) (bit keep b) (sym (bit_of_and row keep b) ∙ t)).0 in
    elim (cases_lt (ones x) (ones row)) [
      | inl l ↦ l
      | inr l ↦ absurd (ne (ones_same row x row (below_pow row) part l))
    ]

-- a unit more in the set
pub bit_more : (x u w : ℕ) → u < 64 → bit (bit_or x ((1 * 2 ^ u) % 18446744073709551616)) w ≡ (bit x w || eqb u w)
bit_more x u w l =
    bit_of_or x ((1 * 2 ^ u) % 18446744073709551616) w
    ∙ ap (λ (t : Bool). bit x w || t) (ap (λ (y : ℕ). bit y w) (one_shl u 64 l) ∙ bit_one u w)

pub or_none : (s t : Bool) → (s || t) ≡ false → (s ≡ false) × (t ≡ false)
or_none false t e = (refl, e)
or_none true t e = absurd (both_ways true e refl)

module _ (units keep : ℕ) (before : List ℕ) where
  pub cutting_start : Cutting units keep before units before 0
  cutting_start = record {
    many = refl;
    left = λ u t. t;
    inside = λ u b t. t;
    keeps = λ u b t h. t;
    cuts = λ u b t f. absurd (both_ways (bit units u) f t);
    same = λ u f. refl;
    only = λ u t. absurd (both_ways (bit 0 u) (bit_none u) t);
    still = λ e. refl;
  }

  abbrev Now : ℕ → List ℕ → ℕ → Type 0
  Now = Cutting units keep before

  module _ {rest u next changed : ℕ} {rows : List ℕ} (n : Turn rest u next) (h : Now rest rows changed) where
    abbrev row : ℕ
    row = get_or rows u 0

    -- the lowest of the rest
    pub lowest_here : ((w : ℕ) → bit units w ≡ true → w < length before) → u < length rows
    lowest_here w = let i = w u (h.left u n.held) in omega (arith, h.many)

    next_left : (w : ℕ) → bit next w ≡ true → bit rest w ≡ true
    next_left w t = (and_parts (bit rest w) (not (eqb w u)) (sym (n.but w) ∙ t)).0

    next_off : (w : ℕ) → bit next w ≡ false → (bit rest w ≡ false) ⊎ (w ≡ u)
    next_off w t =
        elim (cases_eq w u) [
          | inl z ↦ inr z
          | inr nz ↦ elim (cases_Bool (bit rest w)) [
            | inl s ↦ absurd (both_ways (bit next w) t (n.but w ∙ and_from (bit rest w) (not (eqb w u)) s (not_from_false (eqb w u) (ne_eqb w u nz))))
            | inr s ↦ inl s
          ]
        ]

    -- its row is inside `keep` already
    pub cutting_pass : bit_and row keep ≡ row → Now next rows changed
    cutting_pass e = record {
      many = h.many;
      left = λ w t. h.left w (next_left w t);
      inside = h.inside;
      keeps = h.keeps;
      cuts = λ w b i o t. elim (next_off w o) [
        | inl s ↦ h.cuts w b i s t
        | inr z ↦ (and_parts (bit row b) (bit keep b) (sym (bit_of_and row keep b) ∙ (ap (λ (x : ℕ). bit x b) e ∙ (ap (λ (v : ℕ). bit (get_or rows v 0) b) (sym z) ∙ t)))).1
      ];
      same = h.same;
      only = h.only;
      still = h.still;
    }

    -- it is not: the row is cut
    pub cutting_step : ((w : ℕ) → bit units w ≡ true → w < length before) → (bit_and row keep ≡ row → ⊥)
        → Now next (set rows u (bit_and row keep)) (bit_or changed ((1 * 2 ^ u) % 18446744073709551616))
    cutting_step w ne =
        let ll = lowest_here w in
        let x : ℕ = bit_and row keep in
        let parts : (b : ℕ) → bit x b ≡ true → (bit row b ≡ true) × (bit keep b ≡ true) = λ b t. and_parts (bit row b) (bit keep b) (sym (bit_of_and row keep b) ∙ t) in
        let less : ones x < ones row = ones_less row keep ne in
        let here : get_or (set rows u x) u 0 ≡ x = get_or-set_same rows u x 0 ll in
        let set_here : (v b : ℕ) → v ≡ u → bit (get_or (set rows u x) v 0) b ≡ bit x b = λ v b z. ap (λ (w : ℕ). bit (get_or (set rows u x) w 0) b) z ∙ ap (λ (y : ℕ). bit y b) here in
        let set_there : (v b : ℕ) → (v ≡ u → ⊥) → bit (get_or (set rows u x) v 0) b ≡ bit (get_or rows v 0) b = λ v b nz. ap (λ (y : ℕ). bit y b) (get_or-set_other rows u v x 0 nz) in
        let p = pair_count_set rows u x ll in
        record {
          many = length-set rows u x ∙ h.many;
          left = λ v t. h.left v (next_left v t);
          inside = λ v b t. elim (cases_eq v u) [
            | inl z ↦ h.inside v b (ap (λ (w : ℕ). bit (get_or rows w 0) b) z ∙ (parts b (sym (set_here v b z) ∙ t)).0)
            | inr nz ↦ h.inside v b (sym (set_there v b nz) ∙ t)
          ];
          keeps = λ v b t i. elim (cases_eq v u) [
            | inl z ↦ set_here v b z ∙ (bit_of_and row keep b ∙ and_from (bit row b) (bit keep b) (ap (λ (w : ℕ). bit (get_or rows w 0) b) (sym z) ∙ h.keeps v b t i) (i (ap (bit units) z ∙ h.left u n.held)))
            | inr nz ↦ set_there v b nz ∙ h.keeps v b t i
          ];
          cuts = λ v b i o t. elim (cases_eq v u) [
            | inl z ↦ (parts b (sym (set_here v b z) ∙ t)).1
            | inr nz ↦ elim (next_off v o) [
              | inl s ↦ h.cuts v b i s (sym (set_there v b nz) ∙ t)
              | inr z ↦ absurd (nz z)
            ]
          ];
          same = λ v o.
              let q = or_none (bit changed v) (eqb u v) (sym (bit_more changed u v n.under) ∙ o) in
              get_or-set_other rows u v x 0 (λ z. both_ways (eqb u v) q.1 (eq-eqb u v (sym z))) ∙ h.same v q.0;
          only = λ v o. elim (or_cases (bit changed v) (eqb u v) (sym (bit_more changed u v n.under) ∙ o)) [
            | inl s ↦ h.only v s
            | inr s ↦ ap (bit units) (sym (eqb-true u v s)) ∙ h.left u n.held
          ];
          still = λ z. absurd (omega (arith, pair_count_mono rows before h.many h.inside));
        }

  -- all rows are cut
  pub cut_all : (rest changed : ℕ) (rows : List ℕ) → Now rest rows changed → rest ≡ 0 → CutTo units keep before rows (Some changed)
  cut_all rest changed rows h z = record {
    inside = h.inside;
    keeps = h.keeps;
    cases = record { cuts = λ u b i t. h.cuts u b i (ap (λ (x : ℕ). bit x u) z ∙ bit_none u) t; same = h.same; only = h.only; still = h.still };
  }

  -- a row became empty
  pub cut_short : (rest changed u : ℕ) (rows : List ℕ) → Now rest rows changed → u < length rows → get_or rows u 0 ≡ 0
      → CutTo units keep before rows None
  cut_short rest changed u rows h l z = record {
    inside = h.inside;
    keeps = h.keeps;
    cases = record { unit = u; below = l; empty = z };
  }

  -- nothing has to go
  pub cut_nothing : ((u b : ℕ) → bit units u ≡ true → pairs before u b ≡ true → bit keep b ≡ true) → CutTo units keep before before (Some 0)
  cut_nothing h = record {
    inside = λ u b t. t;
    keeps = λ u b t i. t;
    cases = record { cuts = h; same = λ u f. refl; only = λ u t. absurd (both_ways (bit 0 u) (bit_none u) t); still = λ e. refl };
  }

-- rows with no bay at or past n are inside the row of all n bays
pub inside_all : (n m keep : ℕ) (rows : List ℕ) → n ≤ 64 → all_below n rows ≡ true → m ≡ n → keep ≡ 18446744073709551615 / 2 ^ (64 - m)
    → (u b : ℕ) → pairs rows u b ≡ true → bit keep b ≡ true
inside_all n m keep rows few h e is u b t =
    ap (λ (x : ℕ). bit x b) is ∙ (ap (λ (k : ℕ). bit (18446744073709551615 / 2 ^ (64 - k)) b) e
    ∙ (bit_all n b few ∙ lt-ltb b n (bit_below (get_or rows u 0) n b (all_below_at n rows h u) t)))
