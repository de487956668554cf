-- The bays that differ from some bay of a row. Assumes nothing.
use Rattle.std.proofs.Common.{◌≡◌, ℕ, ◌-◌, ◌/◌, ◌^◌, ◌<◌, ◌≤◌, Bool, true, false, not, ◌&&◌, eqb, ltb, sym, refl, ap, ◌∙◌, subst, inl, inr, arith}
use lib.Bits.{bit_and, and_le_l, and_le_r}
use lib.Count.{count_trailing_zeros}
use lib.Pow.{shr_le}
use Rattle.std.proofs.lemmas.Bool.{both_ways, eq-eqb, ne_eqb, lt-ltb, ltb-true, cases_eq, cases_Bool, and_parts, and_from, and_right, not-true, not_from_false}
use Rattle.graphs.specs.Rows.{bit, row_of}
use Rattle.graphs.specs.Graph.{Graph}
use Rattle.graphs.proofs.Bits.{bit_none, bit_of_and, bit_lowest}
use Rattle.graphs.proofs.Rows.{bit_all, all_but, row_is}
use Rattle.placements.specs.Agreement.{agrees_if}
use Rattle.consistency.specs.Support.{any_of}
use Rattle.consistency.specs.Theory.{bool_ext, any_has, any_some}
use Rattle.graphs.proofs.Lowest.{lowest_off}

module _ (r : Graph) (few : r.count ≤ 64) (row : ℕ) where
  abbrev all : ℕ
  all = 18446744073709551615 / 2 ^ (64 - r.count)

  abbrev held : ℕ
  held = bit_and row all

  abbrev differs : ℕ → Bool
  differs b = any_of row r.count (agrees_if r false false false b)

  held_parts : (c : ℕ) → bit held c ≡ true → (bit row c ≡ true) × (c < r.count)
  held_parts c e =
      let p = and_parts (bit row c) (bit all c) (sym (bit_of_and row all c) ∙ e) in
      (p.0, ltb-true c r.count (sym (bit_all r.count c few) ∙ p.1))

  held_from : (c : ℕ) → bit row c ≡ true → c < r.count → bit held c ≡ true
  held_from c e l = bit_of_and row all c ∙ and_from (bit row c) (bit all c) e (bit_all r.count c few ∙ lt-ltb c r.count l)

  differs_from : (b c : ℕ) → bit held c ≡ true → (b ≡ c → ⊥) → differs b ≡ true
  differs_from b c e ne =
      let p = held_parts c e in
      any_has row r.count (agrees_if r false false false b) c p.1 p.0 (ap (λ (t : Bool). not t && true) (ne_eqb b c ne))

  pub record Other (b : ℕ) : Type 0 where
    pub at : ℕ
    pub inside : bit held at ≡ true
    pub apart : b ≡ at → ⊥

  differs_some : (b : ℕ) → differs b ≡ true → Other b
  differs_some b e =
      let q = any_some row r.count (agrees_if r false false false b) e in
      record {
        at = q.at;
        inside = held_from q.at q.held q.under;
        apart = λ z. both_ways (eqb b q.at) (not-true (eqb b q.at) (and_parts (not (eqb b q.at)) true q.passes).0) (eq-eqb b q.at z);
      }

  held_fits : held < 2 ^ 64
  held_fits = omega (arith, and_le_r row all, shr_le 18446744073709551615 (64 - r.count))

  pub lone_none : held ≡ 0 → 0 ≡ row_of r.count (λ b. any_of row r.count (agrees_if r false false false b))
  lone_none z = row_is r.count 0 differs
      (λ b. bit_none b ∙ sym (and_right (ltb b r.count) (differs b)
      (elim (cases_Bool (differs b)) [
        | inl e ↦ absurd (let q = differs_some b e in both_ways (bit held q.at) (ap (λ (x : ℕ). bit x q.at) z ∙ bit_none q.at) q.inside)
        | inr e ↦ e
      ])))

  -- the row without its lowest bay
  abbrev others : ℕ
  others = bit_and held (held - 1)

  -- every bay is the lowest
  lone_at : 0 < held → others ≡ 0 → (b : ℕ) → bit held b ≡ true → b ≡ count_trailing_zeros 64 held
  lone_at l z b t =
      elim (cases_eq b (count_trailing_zeros 64 held)) [
        | inl e ↦ e
        | inr ne ↦ absurd (both_ways (bit others b) (ap (λ (x : ℕ). bit x b) z ∙ bit_none b)
            (lowest_off 64 held l held_fits b ∙ and_from (bit held b) (not (eqb b (count_trailing_zeros 64 held))) t (not_from_false (eqb b (count_trailing_zeros 64 held)) (ne_eqb b (count_trailing_zeros 64 held) ne))))
      ]

  pub lone_one : 0 < held → others ≡ 0 → bit_and all (18446744073709551615 - held) ≡ row_of r.count (λ b. any_of row r.count (agrees_if r false false false b))
  lone_one l z =
      let c : ℕ = count_trailing_zeros 64 held in
      let e : bit held c ≡ true = bit_lowest 64 held l held_fits in
      all_but r.count held differs few held_fits
      (λ b. bool_ext (bit held b) (not (differs b))
      (λ t. elim (cases_Bool (differs b)) [
        | inl d ↦ absurd (let q = differs_some b d in q.apart (lone_at l z b t ∙ sym (lone_at l z q.at q.inside)))
        | inr d ↦ not_from_false (differs b) d
      ])
      (λ t. elim (cases_eq b c) [
        | inl y ↦ subst (λ (x : ℕ). bit held x ≡ true) (sym y) e
        | inr ny ↦ absurd (both_ways (differs b) (not-true (differs b) t) (differs_from b c e ny))
      ]))

  pub lone_more : 0 < held → 0 < others → all ≡ row_of r.count (λ b. any_of row r.count (agrees_if r false false false b))
  lone_more l m =
      let low : ℕ = count_trailing_zeros 64 held in
      let high : ℕ = count_trailing_zeros 64 others in
      let o : bit others high ≡ true = bit_lowest 64 others m (omega (arith, and_le_l held (held - 1), held_fits)) in
      let p = and_parts (bit held high) (not (eqb high low)) (sym (lowest_off 64 held l held_fits high) ∙ o) in
      row_is r.count all differs
      (λ b. bit_all r.count b few ∙ last (ltb b r.count) (differs b)
      (elim (cases_eq b low) [
        | inl y ↦ differs_from b high p.0 (λ z. both_ways (eqb high low) (not-true (eqb high low) p.1) (eq-eqb high low (sym z ∙ y)))
        | inr ny ↦ differs_from b low (bit_lowest 64 held l held_fits) ny
      ]))
    where
      last : (s t : Bool) → t ≡ true → s ≡ (s && t)
      last true t e = sym e
      last false t e = refl
