-- The degrees of a sound graph, and rows of the nodes by their degrees. Assumes nothing.
use Rattle.std.specs.Prelude.{◌≡◌, ℕ, ◌+◌, ◌-◌, ◌*◌, ◌%◌, ◌^◌, ◌<◌, ◌≤◌, Bool, true, false, not, ◌&&◌, ◌||◌, ltb, List, length, set, replicate, ◌==◌, count_ones, nat_eq, nat_le, nat_lt, slice_index, refl}
use Rattle.std.proofs.Common.{sym, ap, subst, ◌∙◌, inl, inr, arith, pow_mono, length-set, get_or-set_same, get_or-set_other}
use Rattle.std.specs.Int.Bits.{bit_and, bit_or}
use Rattle.std.proofs.lemmas.List.{length-replicate, get_or-replicate}
use Rattle.std.proofs.lemmas.Bool.{cases_eq, cases_lt, eq-eqb, ne_eqb, lt-ltb, ltb-true, and_parts}
use Rattle.std.proofs.lemmas.Bool.Decides.{nat_tests}
use Rattle.std.proofs.Math.Bool.{and-true}
use Rattle.graphs.specs.Rows.{bit, row_of}
use Rattle.graphs.specs.Graph.{Graph, Sound}
use Rattle.graphs.proofs.Bits.{bit_of_and, bit_of_or, bit_none, bits_below}
use Rattle.graphs.proofs.Rows.{Upto, upto_none, upto_set, upto_pass, bit_row_of, row_is}
use Rattle.placements.specs.Counting.{count_below, degree}
use Rattle.placements.proofs.Counting.{count_same, count_not, count_all, ones_row_of, degree_less as degree_below}
use Rattle.placements.proofs.Masks.{bit_full, bit_inverse}
use Rattle.degree.specs.Degree.{degree_within, all_nodes, ByDegree}

-- the ones of a row within a set
pub ones_within : (n : ℕ) (p : ℕ → Bool) (set : ℕ) → count_ones (bit_and (row_of n p) set) ≡ count_below n (λ b. p b && bit set b)
ones_within n p set =
    ap count_ones (row_is n (bit_and (row_of n p) set) (λ b. p b && bit set b)
    (λ b. bit_of_and (row_of n p) set b ∙ ap (λ (t : Bool). t && bit set b) (bit_row_of n p b) ∙ and_assoc (nat_lt b n) (p b) (bit set b)))
    ∙ ones_row_of n (λ b. p b && bit set b)
  where
    and_assoc : (s t v : Bool) → ((s && t) && v) ≡ (s && (t && v))
    and_assoc true t v = refl
    and_assoc false t v = refl

-- within all nodes: the degree
pub degree_all : (g : Graph) (a : ℕ) → degree_within g all_nodes a ≡ degree g a
degree_all g a = count_same g.count (λ b. g.joined a b && all_nodes b) (g.joined a) (λ b l. and-true (g.joined a b))

-- all bits of a number of 64 bits are all nodes
pub degree_full : (g : Graph) → Sound g → (a : ℕ) → degree_within g (bit 18446744073709551615) a ≡ degree_within g all_nodes a
degree_full g s a =
    count_same g.count (λ b. g.joined a b && bit 18446744073709551615 b) (λ b. g.joined a b && all_nodes b)
    (λ b l. ap (λ (t : Bool). g.joined a b && t) (bit_full b (omega (arith, s.few))))

-- no node is joined to itself, nor one past the count to any
pub degree_less : (g : Graph) → Sound g → (a : ℕ) → degree_within g all_nodes a < g.count
degree_less g s a =
    elim (cases_lt a g.count) [
      | inl l ↦ omega (arith, degree_all g a, degree_below g a s l)
      | inr l ↦
          let none : count_below g.count (λ b. not (g.joined a b)) ≡ g.count = count_all g.count (λ b. not (g.joined a b)) (λ b lb. ap not (s.outside_from a b l)) in
          omega (arith, degree_all g a, count_not g.count (g.joined a), s.some)
    ]

-- the nodes below b, each in the row above its degree
pub record Sorted (d : ℕ → ℕ) (b : ℕ) (rows : List ℕ) : Type 0 where
  pub many : length rows ≡ 65
  pub exact : (k : ℕ) → k < 65 → Upto b (λ c. nat_eq (d c + 1) k) (slice_index rows k)

pub sorted_none : (d : ℕ → ℕ) → Sorted d 0 (replicate 65 0)
sorted_none d = record {
  many = length-replicate {A = ℕ} 65 0;
  exact = λ k l c. ap (λ (y : ℕ). bit y c) (get_or-replicate {A = ℕ} 65 k 0 0 l) ∙ upto_none (λ v. nat_eq (d v + 1) k) c;
}

pub sorted_more : (d : ℕ → ℕ) (b e : ℕ) (rows : List ℕ) → e ≡ d b → e < 64 → b < 64 → Sorted d b rows
    → Sorted d (b + 1) (set rows (e + 1) (bit_or (slice_index rows (e + 1)) ((1 * 2 ^ b) % 18446744073709551616)))
sorted_more d b e rows is le lb s =
    let x : ℕ = bit_or (slice_index rows (e + 1)) ((1 * 2 ^ b) % 18446744073709551616) in
    record {
      many = length-set rows (e + 1) x ∙ s.many;
      exact = λ k lk. elim (cases_eq k (e + 1)) [
        | inl z ↦ λ c.
            ap (λ (y : ℕ). bit y c) (ap (slice_index (set rows (e + 1) x)) z ∙ get_or-set_same rows (e + 1) x 0 (omega (arith, s.many)))
            ∙ upto_set (λ v. nat_eq (d v + 1) k) (slice_index rows (e + 1)) b lb
            (subst (λ (j : ℕ). Upto b (λ v. nat_eq (d v + 1) k) (slice_index rows j)) z (s.exact k lk)) (eq-eqb (d b + 1) k (omega arith)) c
        | inr ne ↦ λ c.
            ap (λ (y : ℕ). bit y c) (get_or-set_other rows (e + 1) k x 0 ne)
            ∙ upto_pass (λ v. nat_eq (d v + 1) k) (slice_index rows k) b (s.exact k lk) (ne_eqb (d b + 1) k (λ z. ne (omega arith))) c
      ];
    }

-- the rows below k hold the nodes of fewer joints, the others still those of one degree, and `fewer` all nodes of these rows
pub record Summed (n : ℕ) (d : ℕ → ℕ) (k : ℕ) (rows : List ℕ) (fewer : ℕ) : Type 0 where
  pub many : length rows ≡ 65
  pub all : Upto n (λ c. ltb (d c + 1) k) fewer
  pub below : (j : ℕ) → j < k → Upto n (λ c. ltb (d c) j) (slice_index rows j)
  pub exact : (j : ℕ) → k ≤ j → j < 65 → Upto n (λ c. nat_eq (d c + 1) j) (slice_index rows j)

pub summed_none : (n : ℕ) (d : ℕ → ℕ) (rows : List ℕ) → length rows ≡ 65
    → ((k : ℕ) → k < 65 → slice_index rows k ≡ row_of n (λ c. nat_eq (d c + 1) k)) → Summed n d 0 rows 0
summed_none n d rows m h = record {
  many = m;
  all = λ c. bit_none c ∙ grind (arith, nat_tests);
  below = λ j l. absurd (omega arith);
  exact = λ j l lj c. ap (λ (y : ℕ). bit y c) (h j lj) ∙ bit_row_of n (λ v. nat_eq (d v + 1) j) c;
}

pub summed_more : (n : ℕ) (d : ℕ → ℕ) (k : ℕ) (rows : List ℕ) (fewer : ℕ) → k < 65 → Summed n d k rows fewer
    → Summed n d (k + 1) (set rows k (bit_or fewer (slice_index rows k))) (bit_or fewer (slice_index rows k))
summed_more n d k rows fewer lk s =
    let x : ℕ = bit_or fewer (slice_index rows k) in
    let here : (c : ℕ) → bit x c ≡ (nat_lt c n && nat_lt (d c) k) = λ c.
    bit_of_or fewer (slice_index rows k) c
    ∙ joined (bit fewer c) (bit (slice_index rows k) c) (nat_lt c n) (d c) (s.all c) (s.exact k (omega arith) lk c) in
    record {
      many = length-set rows k x ∙ s.many;
      all = λ c. here c ∙ ap (λ (t : Bool). nat_lt c n && t) (let e : nat_lt (d c) k ≡ nat_lt (d c + 1) (k + 1) = grind (arith, nat_tests) in e);
      below = λ j l. elim (cases_eq j k) [
        | inl z ↦ λ c.
            ap (λ (y : ℕ). bit y c) (ap (slice_index (set rows k x)) z ∙ get_or-set_same rows k x 0 (omega (arith, s.many)))
            ∙ here c ∙ ap (λ (i : ℕ). nat_lt c n && nat_lt (d c) i) (sym z)
        | inr ne ↦ λ c. ap (λ (y : ℕ). bit y c) (get_or-set_other rows k j x 0 ne) ∙ s.below j (omega arith) c
      ];
      exact = λ j l lj c. ap (λ (y : ℕ). bit y c) (get_or-set_other rows k j x 0 (λ z. omega arith)) ∙ s.exact j (omega arith) lj c;
    }
  where
    joined : (p q t : Bool) (e : ℕ) → p ≡ (t && nat_lt (e + 1) k) → q ≡ (t && (e + 1) == k) → (p || q) ≡ (t && nat_lt e k)
    joined p q true e h i = ap (λ (v : Bool). v || q) h ∙ ap (λ (v : Bool). nat_lt (e + 1) k || v) i ∙ grind (arith, nat_tests)
    joined p q false e h i = ap (λ (v : Bool). v || q) h ∙ i

module _ (r : Graph) (b : ℕ) (lb : b < r.count) where
  abbrev joints : ℕ
  joints = degree_within r all_nodes b

  -- the row of the nodes with fewer joints
  fewer_is : (j x : ℕ) → x ≡ row_of r.count (λ c. nat_lt (degree_within r all_nodes c) j) → bit x b ≡ nat_lt joints j
  fewer_is j x is =
      ap (λ (v : ℕ). bit v b) is ∙ bit_row_of r.count (λ c. nat_lt (degree_within r all_nodes c) j) b
      ∙ ap (λ (v : Bool). v && nat_lt joints j) (lt-ltb b r.count lb)

  -- outside it: the nodes with at least so many
  pub at_least_is : Sound r → (rows : List ℕ) → ByDegree r rows → (j d : ℕ) → j ≡ d → j < 65
      → bit (18446744073709551615 - slice_index rows j) b ≡ nat_le d joints
  at_least_is s rows h j d e lj =
      let is = h j lj in
      let fits : slice_index rows j < 2 ^ r.count = bits_below r.count (slice_index rows j)
      (λ c t. ltb-true c r.count (and_parts (nat_lt c r.count) _ (sym (ap (λ (v : ℕ). bit v c) is ∙ bit_row_of r.count _ c) ∙ t)).0) in
      let most : 2 ^ r.count ≤ 2 ^ 64 = pow_mono s.few in
      bit_inverse (slice_index rows j) b (omega arith) (omega (arith, s.few)) ∙ ap not (fewer_is j (slice_index rows j) is)
      ∙ (let q : not (nat_lt joints j) ≡ nat_le d joints = grind (arith, nat_tests) in q)

  -- in it: the nodes that are not joined to at least so many others
  pub apart_is : Sound r → (rows : List ℕ) → ByDegree r rows → (i z : ℕ) → i ≡ r.count - z → bit (slice_index rows i) b ≡ nat_le z (r.count - 1 - joints)
  apart_is s rows h i z e =
      let less : joints < r.count = degree_less r s b in
      fewer_is i (slice_index rows i) (h i (omega (arith, s.few))) ∙ (let q : nat_lt joints i ≡ nat_le z (r.count - 1 - joints) = grind (arith, nat_tests) in q)
