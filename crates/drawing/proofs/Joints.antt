-- What one joint adds to the rows of a graph. Assumes nothing.
use Rattle.std.proofs.Common.{◌≡◌, ℕ, ◌*◌, ◌%◌, ◌^◌, ◌<◌, ◌≤◌, Bool, true, false, not, ◌&&◌, ◌||◌, eqb, ltb, List, length, get_or, set, take, replicate, sym, refl, ap, ap₂, ◌∙◌, subst, ◌⊎◌, inl, inr, arith}
use lib.Bits.{bit_or}
use Rattle.std.proofs.Math.Bool.{or_assoc, or-false, or_comm, and_comm}
use Rattle.std.proofs.lemmas.List.{get_or-set_same, get_or-set_other, length-set, get_or-replicate, get_or_past, get_or-take, length-take-le}
use Rattle.std.proofs.lemmas.Bool.{cases_Bool, cases_eq, cases_lt, lt-ltb, ltb-true, eq-eqb, eqb-true, eqb-false, ne_eqb, and_from, and_parts, or_cases, not-true}
use Rattle.graphs.specs.Rows.{bit, pairs}
use Rattle.graphs.specs.JointTable.{TableLawful}
use Rattle.graphs.proofs.Bits.{bit_none, bits_below}
use Rattle.graphs.proofs.Rows.{put_on}
use Rattle.drawing.specs.Joints.{joins}

-- the rows with the joint from a to b
abbrev one_way : List ℕ → ℕ → ℕ → List ℕ
one_way rows a b = set rows a (bit_or (get_or rows a 0) ((1 * 2 ^ b) % 18446744073709551616))

joined_one_way : (rows : List ℕ) (a b c d : ℕ) → a < length rows → b < 64 → pairs (one_way rows a b) c d ≡ (pairs rows c d || (eqb a c && eqb b d))
joined_one_way rows a b c d la lb =
    elim (cases_eq a c) [
      | inl z ↦
          let P : ℕ → Type 0 = λ v. pairs (one_way rows a b) v d ≡ (pairs rows v d || (eqb a v && eqb b d)) in
          subst P z
          (ap (λ (x : ℕ). bit x d) (get_or-set_same rows a _ 0 la) ∙ put_on (get_or rows a 0) b d lb
          ∙ sym (ap (λ (t : Bool). pairs rows a d || (t && eqb b d)) (eq-eqb a a refl)))
      | inr ne ↦
          ap (λ (x : ℕ). bit x d) (get_or-set_other rows a c _ 0 (λ e. ne (sym e)))
          ∙ sym (ap (λ (t : Bool). pairs rows c d || (t && eqb b d)) (ne_eqb a c ne) ∙ or-false (pairs rows c d))
    ]

pub joined_both_ways :
    (rows : List ℕ) (n a b : ℕ) → length rows ≡ 64 → n ≤ 64 → a < n → b < n → (a ≡ b → ⊥)
    → (c d : ℕ) → pairs (one_way (one_way rows a b) b a) c d ≡ (pairs rows c d || joins n a b c d)
joined_both_ways rows n a b e le la lb ne c d =
    let there : Bool = eqb a c && eqb b d in
    let back : Bool = eqb b c && eqb a d in
    let inside : (ltb a n && (ltb b n && not (eqb a b))) ≡ true =
    and_from (ltb a n) (ltb b n && not (eqb a b)) (lt-ltb a n la) (and_from (ltb b n) (not (eqb a b)) (lt-ltb b n lb) (ap not (ne_eqb a b ne))) in
    joined_one_way (one_way rows a b) b a c d (omega (arith, length-set rows a (bit_or (get_or rows a 0) ((1 * 2 ^ b) % 18446744073709551616)))) (omega arith)
    ∙ ap (λ (t : Bool). t || back) (joined_one_way rows a b c d (omega arith) (omega arith))
    ∙ or_assoc (pairs rows c d) there back
    ∙ sym (ap (λ (t : Bool). pairs rows c d || (t && (there || back))) inside)

-- what a joint joins: two nodes inside the graph, different ones, both ways
module _ (n a b : ℕ) where
  parts : (c d : ℕ) → joins n a b c d ≡ true → ((a < n) × (b < n) × (eqb a b ≡ false)) × (((a ≡ c) × (b ≡ d)) ⊎ ((b ≡ c) × (a ≡ d)))
  parts c d e =
      let both = and_parts (ltb a n && (ltb b n && not (eqb a b))) ((eqb a c && eqb b d) || (eqb b c && eqb a d)) e in
      let inside = and_parts (ltb a n) (ltb b n && not (eqb a b)) both.0 in
      let rest = and_parts (ltb b n) (not (eqb a b)) inside.1 in (
        (ltb-true a n inside.0, ltb-true b n rest.0, not-true (eqb a b) rest.1),
        elim (or_cases (eqb a c && eqb b d) (eqb b c && eqb a d) both.1) [
          | inl t ↦ let p = and_parts (eqb a c) (eqb b d) t in inl (eqb-true a c p.0, eqb-true b d p.1)
          | inr t ↦ let p = and_parts (eqb b c) (eqb a d) t in inr (eqb-true b c p.0, eqb-true a d p.1)
        ],
      )

  joins_inside : (c d : ℕ) → joins n a b c d ≡ true → d < n
  joins_inside c d e = let p = parts c d e in elim p.1 [ inl t ↦ omega (arith, p.0, t) | inr t ↦ omega (arith, p.0, t) ]

  joins_apart : (c : ℕ) → joins n a b c c ≡ false
  joins_apart c =
      elim (cases_Bool (joins n a b c c)) [
        | inl t ↦
            let p = parts c c t in
            let same : a ≡ b = elim p.1 [ inl s ↦ s.0 ∙ sym s.1 | inr s ↦ s.1 ∙ sym s.0 ] in
            absurd (eqb-false a b p.0.2 same)
        | inr f ↦ f
      ]

  joins_symmetric : (c d : ℕ) → joins n a b c d ≡ joins n a b d c
  joins_symmetric c d =
      ap (λ (t : Bool). (ltb a n && (ltb b n && not (eqb a b))) && t)
      (or_comm (eqb a c && eqb b d) (eqb b c && eqb a d) ∙ ap₂ (λ (s t : Bool). s || t) (and_comm (eqb b c) (eqb a d)) (and_comm (eqb a c) (eqb b d)))

-- rows of a graph, with a joint more
module _ (n a b : ℕ) (rows more : List ℕ) (joined : (c d : ℕ) → pairs more c d ≡ (pairs rows c d || joins n a b c d)) where
  pub still_inside : ((c d : ℕ) → pairs rows c d ≡ true → d < n) → (c d : ℕ) → pairs more c d ≡ true → d < n
  still_inside inside c d e =
      elim (or_cases (pairs rows c d) (joins n a b c d) (sym (joined c d) ∙ e)) [
        | inl t ↦ inside c d t
        | inr t ↦ joins_inside n a b c d t
      ]

  pub still_irreflexive : ((c : ℕ) → pairs rows c c ≡ false) → (c : ℕ) → pairs more c c ≡ false
  still_irreflexive irreflexive c = joined c c ∙ ap₂ (λ (s t : Bool). s || t) (irreflexive c) (joins_apart n a b c)

  pub still_symmetric : ((c d : ℕ) → pairs rows c d ≡ pairs rows d c) → (c d : ℕ) → pairs more c d ≡ pairs more d c
  still_symmetric symmetric c d = joined c d ∙ ap₂ (λ (s t : Bool). s || t) (symmetric c d) (joins_symmetric n a b c d) ∙ sym (joined d c)

-- a graph of 64 rows with no joints
pub no_joints : (c d : ℕ) → pairs (replicate 64 0) c d ≡ false
no_joints c d =
    ap (λ (row : ℕ). bit row d)
    (elim (cases_lt c 64) [
      | inl lt ↦ get_or-replicate 64 c 0 0 lt
      | inr le ↦ get_or_past (replicate 64 0) c 0 (omega arith)
    ])
    ∙ bit_none d

-- the rows of a graph's nodes are a lawful table
pub lawful_rows :
    (n : ℕ) (rows : List ℕ) → length rows ≡ 64 → n ≤ 64 → ((c d : ℕ) → pairs rows c d ≡ true → d < n) → ((c : ℕ) → pairs rows c c ≡ false)
    → ((c d : ℕ) → pairs rows c d ≡ pairs rows d c) → 1 ≤ n → TableLawful (take n rows) n
lawful_rows n rows e le inside irreflexive symmetric some =
    record {
      square = length-take-le n rows (omega arith);
      some = some;
      few = le;
      each = λ a lt. record {
        inside = bits_below n (get_or (take n rows) a 0) (λ d t. inside a d (sym (at a d lt) ∙ t));
        irreflexive = at a a lt ∙ irreflexive a;
        symmetric = λ b below. at a b lt ∙ symmetric a b ∙ sym (at b a below);
      };
    }
  where
    at : (a d : ℕ) → a < n → bit (get_or (take n rows) a 0) d ≡ pairs rows a d
    at a d lt = ap (λ (row : ℕ). bit row d) (get_or-take n rows a 0 lt)
