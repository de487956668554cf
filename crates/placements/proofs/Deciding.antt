-- The tests of placements, rows and order say what the relations say. Assumes nothing.
use Rattle.std.proofs.Common.{◌≡◌, ℕ, zero, suc, ◌+◌, ◌<◌, Bool, true, false, ◌&&◌, eqb, ltb, ◌⊎◌, List, [], ◌∷◌, length, get_or, Decides, sym, refl, ap, ap₂, ◌∙◌, inl, inr, arith}
use Rattle.std.specs.List.{list_all, enumerate_from}
use Rattle.std.proofs.lemmas.Bool.Decides.{Decides-eqb, Decides-ltb, Decides-and, Decides-or, Decides-like, Decides-below_and, Decides-below_or}
use Rattle.std.proofs.lemmas.Bool.{cases_eq}
use Rattle.graphs.specs.Graph.{Graph}
use Rattle.graphs.specs.Rows.{Pairs}
use Rattle.placements.specs.Agreement.{agrees}
use Rattle.placements.specs.Placement.{Placement, Within}
use Rattle.placements.specs.Order.{Before}
use Rattle.placements.specs.Tests.{each_below, some_below, pair_test, unit_test, placement_test, within_test, before_test}

-- a test as its own fact
pub decides_itself : (t : Bool) → Decides t (t ≡ true)
decides_itself t = (λ e. e, λ e. e)

pub each_decides : (p : ℕ → Bool) (P : ℕ → Type 0) → ((k : ℕ) → Decides (p k) (P k)) → (n : ℕ) → Decides (each_below n p) ((k : ℕ) → k < n → P k)
unfolding each_below
each_decides p P each n = Decides-below_and p P (λ k. each_below k p) each refl (λ _. refl) n

pub some_decides : (p : ℕ → Bool) (P : ℕ → Type 0) → ((k : ℕ) → Decides (p k) (P k)) → (n : ℕ) → Decides (some_below n p) ((k : ℕ) × (k < n) × P k)
unfolding some_below
some_decides p P each n = Decides-below_or p P (λ k. some_below k p) each refl (λ _. refl) n

-- the first number apart
each_front : (p : ℕ → Bool) (n : ℕ) → each_below (suc n) p ≡ (p 0 && each_below n (λ k. p (suc k)))
unfolding each_below
each_front p zero = refl
each_front p (suc n) = ap (λ (t : Bool). p (suc n) && t) (each_front p n) ∙ swap (p (suc n)) (p 0) (each_below n (λ k. p (suc k)))
  where
    swap : (x y z : Bool) → (x && (y && z)) ≡ (y && (x && z))
    swap true y z = refl
    swap false true z = refl
    swap false false z = refl

-- each element with its number passes
pub list_each : (t : ℕ → ℕ → Bool) (xs : List ℕ) (i : ℕ) (p : ℕ → Bool) → ((k : ℕ) → p k ≡ t (i + k) (get_or xs k 0))
    → list_all (λ q. t q.0 q.1) (enumerate_from i xs) ≡ each_below (length xs) p
unfolding each_below
list_each t [] i p e = refl
list_each t (x ∷ xs) i p e =
    ap₂ (λ (s r : Bool). s && r) (sym (e 0 ∙ ap (λ (m : ℕ). t m x) (let z : i + 0 ≡ i = omega arith in z)))
    (list_each t xs (i + 1) (λ k. p (suc k)) (λ k. e (suc k) ∙ ap (λ (m : ℕ). t m (get_or xs k 0)) (let z : i + suc k ≡ i + 1 + k = omega arith in z)))
    ∙ sym (each_front p (length xs))

-- the unit u stands in the room and agrees with each other
abbrev pub Suits : Graph → Graph → Bool → List ℕ → ℕ → Type 0
Suits a r strict w u =
    (get_or w u 0 < r.count)
    × ((v : ℕ) → v < a.count → (u ≡ v) ⊎ (agrees a r strict u (get_or w u 0) v (get_or w v 0) ≡ true))

pub unit_decides : (a r : Graph) (strict : Bool) (w : List ℕ) (u : ℕ) → Decides (unit_test a r strict w u) (Suits a r strict w u)
unit_decides a r strict w u =
    Decides-and (ltb (get_or w u 0) r.count) (each_below a.count (pair_test a r strict w u))
    (Decides-ltb (get_or w u 0) r.count)
    (each_decides (pair_test a r strict w u) (λ v. (u ≡ v) ⊎ (agrees a r strict u (get_or w u 0) v (get_or w v 0) ≡ true))
    (λ v. Decides-or (eqb u v) (agrees a r strict u (get_or w u 0) v (get_or w v 0)) (Decides-eqb u v) (decides_itself (agrees a r strict u (get_or w u 0) v (get_or w v 0)))) a.count)

pub placement_decides : (a r : Graph) (strict : Bool) (w : List ℕ) → Decides (placement_test a r strict w) (Placement a r strict w)
placement_decides a r strict w =
    Decides-like (placement_test a r strict w) to from
    (Decides-and (eqb (length w) a.count) (each_below a.count (unit_test a r strict w)) (Decides-eqb (length w) a.count)
    (each_decides (unit_test a r strict w) (Suits a r strict w) (unit_decides a r strict w) a.count))
  where
    other : (u v : ℕ) → (u ≡ v → ⊥) → (u ≡ v) ⊎ (agrees a r strict u (get_or w u 0) v (get_or w v 0) ≡ true) → agrees a r strict u (get_or w u 0) v (get_or w v 0) ≡ true
    other u v ne (inl e) = absurd (ne e)
    other u v ne (inr h) = h

    to : (length w ≡ a.count) × ((u : ℕ) → u < a.count → Suits a r strict w u) → Placement a r strict w
    to h = record { whole = h.0; on_bays = λ u l. (h.1 u l).0; agree = λ u v lu lv ne. other u v ne ((h.1 u lu).1 v lv) }

    from : Placement a r strict w → (length w ≡ a.count) × ((u : ℕ) → u < a.count → Suits a r strict w u)
    from p = (p.whole, λ u lu. (p.on_bays u lu, λ v lv. elim (cases_eq u v) [ inl e ↦ inl e | inr ne ↦ inr (p.agree u v lu lv ne) ]))

pub within_decides : (r : Pairs) (w : List ℕ) → Decides (within_test r w) (Within r w)
within_decides r w = each_decides (λ u. r u (get_or w u 0)) (λ u. r u (get_or w u 0) ≡ true) (λ u. decides_itself (r u (get_or w u 0))) (length w)

pub before_decides : (v w : List ℕ) → Decides (before_test v w) (Before v w)
before_decides v w =
    Decides-like (before_test v w)
    (λ h. record { unit = h.0; below = h.1; same = h.2.1; lower = h.2.0 })
    (λ b. (b.unit, b.below, (b.lower, b.same)))
    (some_decides (λ u. ltb (get_or v u 0) (get_or w u 0) && each_below u (λ k. eqb (get_or v k 0) (get_or w k 0))) (λ u. (get_or v u 0 < get_or w u 0) × ((k : ℕ) → k < u → get_or v k 0 ≡ get_or w k 0))
    (λ u. Decides-and (ltb (get_or v u 0) (get_or w u 0)) (each_below u (λ k. eqb (get_or v k 0) (get_or w k 0))) (Decides-ltb (get_or v u 0) (get_or w u 0))
    (each_decides (λ k. eqb (get_or v k 0) (get_or w k 0)) (λ k. get_or v k 0 ≡ get_or w k 0) (λ k. Decides-eqb (get_or v k 0) (get_or w k 0)) u)) (length w))
