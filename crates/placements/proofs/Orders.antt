-- The laws of dictionary order; the first list and the list of all are determined. Assumes nothing.
use Rattle.std.proofs.Common.{◌≡◌, ℕ, zero, suc, ◌<◌, ◌⊎◌, List, [], ◌∷◌, length, get_or, Some, None, Option, sym, refl, ap, ◌∙◌, subst, inl, inr, arith}
use Rattle.std.proofs.lemmas.Bool.{cases_order}
use Rattle.placements.specs.Order.{Before, IsFirst, Answers, Lists}
use Rattle.placements.specs.Listing.{first_of}

-- ---- order

pub before_irreflexive : (v : List ℕ) → Before v v → ⊥
before_irreflexive v h = omega (arith, h.lower)

pub before_transitive : (v w x : List ℕ) → Before v w → Before w x → Before v x
before_transitive v w x h k =
    elim (cases_order h.unit k.unit) [
      | inl e ↦ record {
        unit = k.unit;
        below = k.below;
        same = λ i l. h.same i (omega arith) ∙ k.same i l;
        lower = let P : ℕ → Type 0 = λ i. get_or v i 0 < get_or w i 0 in let a : get_or v k.unit 0 < get_or w k.unit 0 = subst P e h.lower in omega (arith, k.lower);
      }
      | inr (inl l) ↦ record {
        unit = h.unit;
        below = omega (arith, k.below);
        same = λ i j. h.same i j ∙ k.same i (omega arith);
        lower = omega (arith, h.lower, k.same h.unit l);
      }
      | inr (inr l) ↦ record {
        unit = k.unit;
        below = k.below;
        same = λ i j. h.same i (omega arith) ∙ k.same i j;
        lower = omega (arith, k.lower, h.same k.unit l);
      }
    ]

pub before_asymmetric : (v w : List ℕ) → Before v w → Before w v → ⊥
before_asymmetric v w h k = before_irreflexive v (before_transitive v w v h k)

pub before_heads : (b c : ℕ) (v w : List ℕ) → b < c → Before (b ∷ v) (c ∷ w)
before_heads b c v w l = record { unit = 0; below = omega arith; same = λ k z. absurd (omega arith); lower = l }

pub before_cons : (b : ℕ) (v w : List ℕ) → Before v w → Before (b ∷ v) (b ∷ w)
before_cons b v w h = record { unit = suc h.unit; below = omega (arith, h.below); same = same; lower = h.lower }
  where
    same : (k : ℕ) → k < suc h.unit → get_or (b ∷ v) k 0 ≡ get_or (b ∷ w) k 0
    same zero l = refl
    same (suc k) l = h.same k (omega arith)

-- of two lists of one length
pub before_total : (v w : List ℕ) → length v ≡ length w → (v ≡ w) ⊎ (Before v w ⊎ Before w v)
before_total [] [] e = inl refl
before_total [] (y ∷ w) e = absurd (omega arith)
before_total (x ∷ v) [] e = absurd (omega arith)
before_total (x ∷ v) (y ∷ w) e =
    elim (cases_order x y) [
      | inl z ↦ elim (before_total v w (omega arith)) [
        | inl s ↦ inl (λ i. z i ∷ s i)
        | inr (inl l) ↦ inr (inl (subst (λ c. Before (x ∷ v) (c ∷ w)) z (before_cons x v w l)))
        | inr (inr l) ↦ inr (inr (subst (λ c. Before (c ∷ w) (x ∷ v)) z (before_cons x w v l)))
      ]
      | inr (inl l) ↦ inr (inl (before_heads x y v w l))
      | inr (inr l) ↦ inr (inr (before_heads y x w v l))
    ]

-- ---- the first

pub first_unique : (P : List ℕ → Type 0) (v w : List ℕ) → IsFirst P v → IsFirst P w → v ≡ w
first_unique P v w f g =
    elim (f.least w g.holds) [
      | inl e ↦ e
      | inr b ↦ elim (g.least v f.holds) [ inl e ↦ sym e | inr c ↦ absurd (before_asymmetric v w b c) ]
    ]

pub answers_unique : (P : List ℕ → Type 0) (o p : Option (List ℕ)) → Answers P o → Answers P p → o ≡ p
answers_unique P None None h k = refl
answers_unique P None (Some w) h k = absurd (h w k.holds)
answers_unique P (Some v) None h k = absurd (k v h.holds)
answers_unique P (Some v) (Some w) h k = ap Some (first_unique P v w h k)

pub answers_like : (P Q : List ℕ → Type 0) → ((w : List ℕ) → P w → Q w) → ((w : List ℕ) → Q w → P w) → (o : Option (List ℕ)) → Answers P o → Answers Q o
answers_like P Q to from None h = λ w q. h w (from w q)
answers_like P Q to from (Some v) h = record { holds = to v h.holds; least = λ w q. h.least w (from w q) }

-- ---- all

pub lists_like : (P Q : List ℕ → Type 0) → ((w : List ℕ) → P w → Q w) → ((w : List ℕ) → Q w → P w) → (ws : List (List ℕ)) → Lists P ws → Lists Q ws
lists_like P Q to from ws h = record { rising = h.rising; sound = λ i l. to (get_or ws i []) (h.sound i l); complete = λ w q. h.complete w (from w q) }

pub lists_none : (P : List ℕ → Type 0) → ((w : List ℕ) → P w → ⊥) → Lists P []
lists_none P none = record { rising = λ i j l z. absurd (omega arith); sound = λ i z. absurd (omega arith); complete = λ w p. absurd (none w p) }

pub lists_empty : (P : List ℕ → Type 0) → Lists P [] → (w : List ℕ) → P w → ⊥
lists_empty P h w p = omega (arith, (h.complete w p).1)

-- the first of all stands at their head
pub lists_first : (P : List ℕ → Type 0) (v : List ℕ) (ws : List (List ℕ)) → Lists P (v ∷ ws) → IsFirst P v
lists_first P v ws h = record { holds = h.sound 0 (omega arith); least = least }
  where
    at : (w : List ℕ) (i : ℕ) → i < length (v ∷ ws) → get_or (v ∷ ws) i [] ≡ w → (v ≡ w) ⊎ Before v w
    at w zero l e = inl e
    at w (suc i) l e = inr (subst (Before v) e (h.rising 0 (suc i) (omega arith) l))

    least : (w : List ℕ) → P w → (v ≡ w) ⊎ Before v w
    least w p = let z = h.complete w p in at w z.0 z.1 z.2

-- and behind it all those after it
pub lists_rest : (P : List ℕ → Type 0) (v : List ℕ) (ws : List (List ℕ)) → Lists P (v ∷ ws) → Lists (λ w. P w × Before v w) ws
lists_rest P v ws h = record {
  rising = λ i j l z. h.rising (suc i) (suc j) (omega arith) (omega arith);
  sound = λ i l. (h.sound (suc i) (omega arith), h.rising 0 (suc i) (omega arith) (omega arith));
  complete = λ w p. let z = h.complete w p.0 in at w p.1 z.0 z.1 z.2;
}
  where
    at : (w : List ℕ) → Before v w → (i : ℕ) → i < length (v ∷ ws) → get_or (v ∷ ws) i [] ≡ w → (j : ℕ) × (j < length ws) × (get_or ws j [] ≡ w)
    at w b zero l e = absurd (before_irreflexive w (subst (λ x. Before x w) e b))
    at w b (suc i) l e = (i, omega arith, e)

pub lists_more : (P : List ℕ → Type 0) (v : List ℕ) (ws : List (List ℕ)) → IsFirst P v → Lists (λ w. P w × Before v w) ws → Lists P (v ∷ ws)
lists_more P v ws f h = record {
  rising = rising;
  sound = sound;
  complete = λ w p. elim (f.least w p) [
    | inl e ↦ (0, omega arith, e)
    | inr b ↦ let z = h.complete w (p, b) in (suc z.0, omega (arith, z.1), z.2)
  ];
}
  where
    rising : (i j : ℕ) → i < j → j < length (v ∷ ws) → Before (get_or (v ∷ ws) i []) (get_or (v ∷ ws) j [])
    rising i zero l z = absurd (omega arith)
    rising zero (suc j) l z = (h.sound j (omega arith)).1
    rising (suc i) (suc j) l z = h.rising i j (omega arith) (omega arith)

    sound : (i : ℕ) → i < length (v ∷ ws) → P (get_or (v ∷ ws) i [])
    sound zero l = f.holds
    sound (suc i) l = (h.sound i (omega arith)).0

pub lists_answers : (P : List ℕ → Type 0) (ws : List (List ℕ)) → Lists P ws → Answers P (first_of ws)
lists_answers P [] h = lists_empty P h
lists_answers P (v ∷ ws) h = lists_first P v ws h

pub lists_unique : (P : List ℕ → Type 0) (xs ys : List (List ℕ)) → Lists P xs → Lists P ys → xs ≡ ys
lists_unique P [] [] h k = refl
lists_unique P [] (y ∷ ys) h k = absurd (lists_empty P h y (k.sound 0 (omega arith)))
lists_unique P (x ∷ xs) [] h k = absurd (lists_empty P k x (h.sound 0 (omega arith)))
lists_unique P (x ∷ xs) (y ∷ ys) h k =
    let e : x ≡ y = first_unique P x y (lists_first P x xs h) (lists_first P y ys k) in
    let rest : xs ≡ ys = lists_unique (λ w. P w × Before x w) xs ys (lists_rest P x xs h)
    (subst (λ z. Lists (λ w. P w × Before z w) ys) (sym e) (lists_rest P y ys k)) in
    λ i. e i ∷ rest i

-- w is one of ws
abbrev pub Member : List (List ℕ) → List ℕ → Type 0
Member ws w = (i : ℕ) × (i < length ws) × (get_or ws i [] ≡ w)

-- ws rise in dictionary order
abbrev pub Rising : List (List ℕ) → Type 0
Rising ws = (i j : ℕ) → i < j → j < length ws → Before (get_or ws i []) (get_or ws j [])

pub rising_unique : (xs ys : List (List ℕ)) → Rising xs → Rising ys → ((w : List ℕ) → Member xs w → Member ys w) → ((w : List ℕ) → Member ys w → Member xs w) → xs ≡ ys
rising_unique xs ys rx ry to from =
    lists_unique (Member xs) xs ys
    (record { rising = rx; sound = λ i l. (i, l, refl); complete = λ w m. m })
    (record { rising = ry; sound = λ i l. from (get_or ys i []) (i, l, refl); complete = to })
