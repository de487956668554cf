-- Counts under injective maps, and so the degrees under placements. Assumes nothing.
use Rattle.std.proofs.Common.{◌≡◌, ℕ, zero, suc, ◌+◌, ◌-◌, ◌*◌, ◌/◌, ◌%◌, ◌^◌, ◌<◌, ◌≤◌, Bool, true, false, cond, not, ◌&&◌, eqb, ltb, List, get_or, sym, refl, ap, ◌∙◌, inl, inr, add-one, arith}
use lib.Count.{ones, ones_step}
use Rattle.std.proofs.lemmas.Bool.{eqb-false, eq-eqb, ne_eqb, cases_eq, cases_Bool, cases_lt, cond-true, cond-false, and_parts, and_from, and_left, and_right, not-true, not_from_false, not_from_true, lt-ltb, le-ltb, both_ways}
use Rattle.graphs.specs.Graph.{Graph, Sound}
use Rattle.graphs.specs.Rows.{bit, row_from, row_of}
use Rattle.graphs.proofs.Bits.{bit_past}
use Rattle.graphs.proofs.Rows.{row_is}
use Rattle.placements.specs.Placement.{Placement}
use Rattle.placements.specs.Morphisms.{Mono}
use Rattle.placements.specs.Counting.{count_below, degree}
use Rattle.placements.proofs.Morphisms.{agree_parts, placement_mono, placement_injective}

-- ---- counts

one_if : (t : Bool) → t ≡ true → ◌≡◌ {A = ℕ} (cond t 1 0) 1
one_if t e = cond-true t 1 0 e

none_if : (t : Bool) → t ≡ false → ◌≡◌ {A = ℕ} (cond t 1 0) 0
none_if t e = cond-false t 1 0 e

at_most_one : (t : Bool) → cond t 1 0 ≤ 1
at_most_one true = omega arith
at_most_one false = omega arith

pub count_none : (p : ℕ → Bool) → count_below 0 p ≡ 0
unfolding count_below
count_none p = refl

pub count_more : (n : ℕ) (p : ℕ → Bool) → count_below (n + 1) p ≡ count_below n p + cond (p n) 1 0
unfolding count_below
count_more n p = ap (λ k. count_below k p) (add-one n)

pub count_le : (n : ℕ) (p : ℕ → Bool) → count_below n p ≤ n
unfolding count_below
count_le zero p = omega arith
count_le (suc n) p = omega (arith, count_le n p, at_most_one (p n))

pub count_same : (n : ℕ) (p q : ℕ → Bool) → ((k : ℕ) → k < n → p k ≡ q k) → count_below n p ≡ count_below n q
unfolding count_below
count_same zero p q h = refl
count_same (suc n) p q h =
    let i = count_same n p q (λ k l. h k (omega arith)) in
    let e : ◌≡◌ {A = ℕ} (cond (p n) 1 0) (cond (q n) 1 0) = ap (λ t. cond t 1 0) (h n (omega arith)) in
    omega arith

pub count_all : (n : ℕ) (p : ℕ → Bool) → ((k : ℕ) → k < n → p k ≡ true) → count_below n p ≡ n
unfolding count_below
count_all zero p h = refl
count_all (suc n) p h = omega (arith, count_all n p (λ k l. h k (omega arith)), one_if (p n) (h n (omega arith)))

pub count_not : (n : ℕ) (p : ℕ → Bool) → count_below n p + count_below n (λ k. not (p k)) ≡ n
unfolding count_below
count_not zero p = refl
count_not (suc n) p = omega (arith, count_not n p, one_way (p n))
  where
    one_way : (t : Bool) → cond t 1 0 + cond (not t) 1 0 ≡ 1
    one_way true = refl
    one_way false = refl

-- all that pass but c
abbrev pub but : (ℕ → Bool) → ℕ → ℕ → Bool
but p c k = p k && not (eqb k c)

but_other : (p : ℕ → Bool) (c k : ℕ) → (k ≡ c → ⊥) → p k ≡ but p c k
but_other p c k ne =
    elim (cases_Bool (p k)) [
      | inl e ↦ e ∙ sym (and_from (p k) (not (eqb k c)) e (not_from_false (eqb k c) (ne_eqb k c ne)))
      | inr e ↦ e ∙ sym (and_left (p k) (not (eqb k c)) e)
    ]

but_it : (p : ℕ → Bool) (c : ℕ) → but p c c ≡ false
but_it p c = and_right (p c) (not (eqb c c)) (not_from_true (eqb c c) (eq-eqb c c refl))

-- one that passes is counted once
pub count_but : (n c : ℕ) (p : ℕ → Bool) → c < n → p c ≡ true → count_below n p ≡ suc (count_below n (but p c))
unfolding count_below
count_but zero c p l e = absurd (omega arith)
count_but (suc n) c p l e =
    elim (cases_eq n c) [
      | inl z ↦
          let i = count_same n p (but p c) (λ k m. but_other p c k (λ y. omega arith)) in
          omega (arith, one_if (p n) (ap p z ∙ e), none_if (but p c n) (ap (but p c) z ∙ but_it p c))
      | inr ne ↦
          let s : ◌≡◌ {A = ℕ} (cond (p n) 1 0) (cond (but p c n) 1 0) = ap (λ t. cond t 1 0) (but_other p c n ne) in
          omega (arith, count_but n c p (omega (arith, ne)) e)
    ]

-- ---- pigeonholes

-- f takes the numbers below m that pass p, no two to one, to numbers below n that pass q
pub record Injects (m n : ℕ) (p q : ℕ → Bool) (f : ℕ → ℕ) : Type 0 where
  pub into : (v : ℕ) → v < m → p v ≡ true → (f v < n) × (q (f v) ≡ true)
  pub injective : (v w : ℕ) → v < m → w < m → p v ≡ true → p w ≡ true → f v ≡ f w → v ≡ w

-- what is taken so is no more than what there is
pub count_injects : (m n : ℕ) (p q : ℕ → Bool) (f : ℕ → ℕ) → Injects m n p q f → count_below m p ≤ count_below n q
unfolding count_below
count_injects zero n p q f h = omega arith
count_injects (suc m) n p q f h =
    elim (cases_Bool (p m)) [
      | inl e ↦
          let at = h.into m (omega arith) e in
          let i = count_injects m n p (but q (f m)) f (record {
            into = λ v l t. let z = h.into v (omega arith) t in
                (z.0, sym (but_other q (f m) (f v) (λ y. let w = h.injective v m (omega arith) (omega arith) t e y in omega arith)) ∙ z.1);
            injective = λ v w lv lw. h.injective v w (omega arith) (omega arith);
          }) in
          omega (arith, count_but n (f m) q at.0 at.1, one_if (p m) e)
      | inr e ↦
          let i = count_injects m n p q f (record { into = λ v l. h.into v (omega arith); injective = λ v w lv lw. h.injective v w (omega arith) (omega arith) }) in
          omega (arith, none_if (p m) e)
    ]

-- where there is no more than what is taken, nothing else is taken there
pub count_full :
    (m n : ℕ) (p q : ℕ → Bool) (f : ℕ → ℕ) → Injects m n p q f → ((v w : ℕ) → v < m → w < m → f v ≡ f w → v ≡ w) → count_below n q ≤ count_below m p
    → (u : ℕ) → u < m → f u < n → q (f u) ≡ true → p u ≡ true
count_full m n p q f h apart few u lu lf e =
    elim (cases_Bool (p u)) [
      | inl t ↦ t
      | inr no-u ↦
          let i = count_injects m n p (but q (f u)) f (record {
            into = λ v l t. let z = h.into v l t in
                (z.0, sym (but_other q (f u) (f v) (λ y. both_ways (p u) no-u (ap p (sym (apart v u l lu y)) ∙ t))) ∙ z.1);
            injective = h.injective;
          }) in
          absurd (omega (arith, count_but n (f u) q lf e))
    ]

pub count_inside : (n : ℕ) (p q : ℕ → Bool) → ((k : ℕ) → k < n → p k ≡ true → q k ≡ true) → count_below n p ≤ count_below n q
count_inside n p q h = count_injects n n p q (λ k. k) (record { into = λ v l t. (l, h v l t); injective = λ v w lv lw s t e. e })

-- ---- degrees

pub mono_degree : (a r : Graph) (f : ℕ → ℕ) → Mono a r f → (u : ℕ) → u < a.count → degree a u ≤ degree r (f u)
mono_degree a r f h u lu =
    count_injects a.count r.count (a.joined u) (r.joined (f u)) f
    (record { into = λ v lv e. (h.into v lv, h.keeps u v lu lv e); injective = λ v w lv lw s t e. h.injective v w lv lw e })

pub placement_degree : (a r : Graph) (strict : Bool) (w : List ℕ) → Sound a → Placement a r strict w → (u : ℕ) → u < a.count → degree a u ≤ degree r (get_or w u 0)
placement_degree a r strict w sa p = mono_degree a r (λ u. get_or w u 0) (placement_mono a r strict w p sa)

-- the nodes that a is not joined to, but a itself
abbrev pub unjoined : Graph → ℕ → ℕ → Bool
unjoined g a = but (λ k. not (g.joined a k)) a

pub degree_unjoined : (g : Graph) (a : ℕ) → Sound g → a < g.count → degree g a + suc (count_below g.count (unjoined g a)) ≡ g.count
degree_unjoined g a s l =
    omega (arith, count_not g.count (g.joined a), count_but g.count a (λ k. not (g.joined a k)) l (not_from_false (g.joined a a) (s.irreflexive a)))

pub degree_less : (g : Graph) (a : ℕ) → Sound g → a < g.count → degree g a < g.count
degree_less g a s l = omega (arith, degree_unjoined g a s l)

-- in strict use what is not joined is carried too
pub strict_unjoined :
    (a r : Graph) (w : List ℕ) → Placement a r true w → (u : ℕ) → u < a.count
    → count_below a.count (unjoined a u) ≤ count_below r.count (unjoined r (get_or w u 0))
strict_unjoined a r w p u lu =
    count_injects a.count r.count (unjoined a u) (unjoined r (get_or w u 0)) (λ v. get_or w v 0)
    (record { into = λ v lv e. (p.on_bays v lv, into v lv e); injective = λ v x lv lx s t e. placement_injective a r true w p v x lv lx e })
  where
    into : (v : ℕ) → v < a.count → unjoined a u v ≡ true → unjoined r (get_or w u 0) (get_or w v 0) ≡ true
    into v lv e =
        let s = and_parts (not (a.joined u v)) (not (eqb v u)) e in
        let ne : u ≡ v → ⊥ = λ z. eqb-false v u (not-true (eqb v u) s.1) (sym z) in
        and_from (not (r.joined (get_or w u 0) (get_or w v 0))) (not (eqb (get_or w v 0) (get_or w u 0)))
        (not_from_false (r.joined (get_or w u 0) (get_or w v 0)) (agree_parts a r true u (get_or w u 0) v (get_or w v 0) (p.agree u v lu lv ne) refl (not-true (a.joined u v) s.0)))
        (not_from_false (eqb (get_or w v 0) (get_or w u 0)) (ne_eqb (get_or w v 0) (get_or w u 0) (λ z. ne (sym (placement_injective a r true w p v u lv lu z)))))

pub strict_degree :
    (a r : Graph) (w : List ℕ) → Sound a → Sound r → Placement a r true w → (u : ℕ) → u < a.count
    → a.count - 1 - degree a u ≤ r.count - 1 - degree r (get_or w u 0)
strict_degree a r w sa sr p u lu =
    omega (arith, strict_unjoined a r w p u lu, degree_unjoined a u sa lu, degree_unjoined r (get_or w u 0) sr (p.on_bays u lu))

-- ---- rows

count_low : (n : ℕ) (p : ℕ → Bool) → count_below (suc n) p ≡ cond (p 0) 1 0 + count_below n (λ k. p (suc k))
unfolding count_below
count_low zero p = omega arith
count_low (suc n) p = omega (arith, count_low n p)

ones_row_from : (b : ℕ) (p : ℕ → Bool) (n : ℕ) → ones (row_from b p n) ≡ count_below n (λ k. p (b + k))
unfolding row_from ones
ones_row_from b p zero = sym (count_none (λ k. p (b + k)))
ones_row_from b p (suc n) =
    let x : ℕ = row_from (suc b) p n in
    let s : ones (cond (p b) 1 0 + 2 * x) ≡ cond (p b) 1 0 + ones x = step (p b) x in
    let i : ones x ≡ count_below n (λ k. p (b + suc k)) = ones_row_from (suc b) p n ∙ count_same n (λ k. p (suc b + k)) (λ k. p (b + suc k)) (λ k l. ap p (let z : suc b + k ≡ b + suc k = omega arith in z)) in
    let h : ◌≡◌ {A = ℕ} (cond (p (b + 0)) 1 0) (cond (p b) 1 0) = ap (λ k. cond (p k) 1 0) (let z : b + 0 ≡ b = omega arith in z) in
    s ∙ omega (arith, count_low n (λ k. p (b + k)))
  where
    step : (t : Bool) (x : ℕ) → ones (cond t 1 0 + 2 * x) ≡ cond t 1 0 + ones x
    step true x = ones_step (1 + 2 * x) ∙ ap (λ y. y + ones ((1 + 2 * x) / 2)) (let z : (1 + 2 * x) % 2 ≡ 1 = omega arith in z) ∙ ap (λ y. 1 + ones y) (let z : (1 + 2 * x) / 2 ≡ x = omega arith in z)
    step false x = ones_step (0 + 2 * x) ∙ ap (λ y. y + ones ((0 + 2 * x) / 2)) (let z : (0 + 2 * x) % 2 ≡ 0 = omega arith in z) ∙ ap (λ y. 0 + ones y) (let z : (0 + 2 * x) / 2 ≡ x = omega arith in z)

-- the ones of a row are the bays that pass
pub ones_row_of : (n : ℕ) (p : ℕ → Bool) → ones (row_of n p) ≡ count_below n p
ones_row_of n p = ones_row_from 0 p n ∙ count_same n (λ k. p (0 + k)) p (λ k l. ap p (let z : 0 + k ≡ k = omega arith in z))

pub ones_count : (n x : ℕ) → x < 2 ^ n → ones x ≡ count_below n (bit x)
ones_count n x h = ap ones (row_is n x (bit x) within) ∙ ones_row_of n (bit x)
  where
    within : (c : ℕ) → bit x c ≡ (ltb c n && bit x c)
    within c = elim (cases_lt c n) [
      | inl l ↦ sym (ap (λ t. t && bit x c) (lt-ltb c n l))
      | inr g ↦ bit_past x c n h g ∙ sym (and_left (ltb c n) (bit x c) (le-ltb c n g))
    ]
