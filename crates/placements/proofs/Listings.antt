-- The listing by brute force is all that passes, in dictionary order. Assumes nothing.
use Rattle.std.proofs.Common.{◌≡◌, ℕ, zero, suc, ◌+◌, ◌-◌, ◌<◌, ◌≤◌, Bool, true, false, cond, ◌⊎◌, List, [], ◌∷◌, ◌++◌, map, length, get_or, Decides, sym, refl, ap, ◌∙◌, subst, inl, inr, arith}
use Rattle.std.proofs.lemmas.List.{length-append, length-map, get_or_append_left, get_or-append_right, get_or-map, nil_from_length}
use Rattle.std.proofs.lemmas.Bool.{cases_eq, cases_lt, both_ways}
use Rattle.graphs.specs.Graph.{Graph}
use Rattle.placements.specs.Placement.{Placement}
use Rattle.placements.specs.Order.{Before, Answers, Lists}
use Rattle.placements.specs.Tests.{placement_test}
use Rattle.placements.specs.Listing.{Passes, headed, listing, find, ListingIsAll, FindIsFirst}
use Rattle.placements.proofs.Orders.{before_cons, before_heads, lists_like, lists_none, lists_answers, Member}
use Rattle.placements.proofs.Deciding.{placement_decides}

-- ---- lists of lists one behind the other

member_left : (xs ys : List (List ℕ)) (w : List ℕ) → Member xs w → Member (xs ++ ys) w
member_left xs ys w (i, l, e) = (i, omega (arith, length-append xs ys), get_or_append_left xs ys [] i l ∙ e)

member_right : (xs ys : List (List ℕ)) (w : List ℕ) → Member ys w → Member (xs ++ ys) w
member_right xs ys w (i, l, e) = (
  length xs + i,
  omega (arith, length-append xs ys),
  get_or-append_right xs ys (length xs) (length xs + i) [] refl (omega arith) ∙ ap (λ k. get_or ys k []) (let z : length xs + i - length xs ≡ i = omega arith in z) ∙ e,
)

-- what P and Q hold of together, where all of P stand before all of Q
pub lists_append :
    (P Q R : List ℕ → Type 0) (xs ys : List (List ℕ)) → Lists P xs → Lists Q ys → ((v w : List ℕ) → P v → Q w → Before v w)
    → ((w : List ℕ) → P w → R w) → ((w : List ℕ) → Q w → R w) → ((w : List ℕ) → R w → P w ⊎ Q w) → Lists R (xs ++ ys)
lists_append P Q R xs ys h k apart left right split = record {
  rising = rising;
  sound = sound;
  complete = λ w r. elim (split w r) [ inl p ↦ member_left xs ys w (h.complete w p) | inr q ↦ member_right xs ys w (k.complete w q) ];
}
  where
    in_left : (i : ℕ) → i < length xs → get_or xs i [] ≡ get_or (xs ++ ys) i []
    in_left i l = sym (get_or_append_left xs ys [] i l)

    in_right : (i : ℕ) → length xs ≤ i → get_or ys (i - length xs) [] ≡ get_or (xs ++ ys) i []
    in_right i l = sym (get_or-append_right xs ys (length xs) i [] refl l)

    sound : (i : ℕ) → i < length (xs ++ ys) → R (get_or (xs ++ ys) i [])
    sound i l = elim (cases_lt i (length xs)) [
      | inl a ↦ subst R (in_left i a) (left (get_or xs i []) (h.sound i a))
      | inr b ↦ subst R (in_right i b) (right (get_or ys (i - length xs) []) (k.sound (i - length xs) (omega (arith, length-append xs ys))))
    ]

    moved : (v v' w w' : List ℕ) → v ≡ v' → w ≡ w' → Before v w → Before v' w'
    moved v v' w w' e f b = subst (λ x. Before x w') e (subst (Before v) f b)

    rising : (i j : ℕ) → i < j → j < length (xs ++ ys) → Before (get_or (xs ++ ys) i []) (get_or (xs ++ ys) j [])
    rising i j l z = elim (cases_lt j (length xs)) [
      | inl a ↦ moved (get_or xs i []) (get_or (xs ++ ys) i []) (get_or xs j []) (get_or (xs ++ ys) j []) (in_left i (omega arith)) (in_left j a) (h.rising i j l a)
      | inr b ↦ elim (cases_lt i (length xs)) [
        | inl a ↦ moved (get_or xs i []) (get_or (xs ++ ys) i []) (get_or ys (j - length xs) []) (get_or (xs ++ ys) j []) (in_left i a) (in_right j b)
            (apart (get_or xs i []) (get_or ys (j - length xs) []) (h.sound i a) (k.sound (j - length xs) (omega (arith, length-append xs ys))))
        | inr c ↦ moved (get_or ys (i - length xs) []) (get_or (xs ++ ys) i []) (get_or ys (j - length xs) []) (get_or (xs ++ ys) j []) (in_right i c) (in_right j b)
            (k.rising (i - length xs) (j - length xs) (omega arith) (omega (arith, length-append xs ys)))
      ]
    ]

-- all of P behind one number
pub lists_behind :
    (P Q : List ℕ → Type 0) (b : ℕ) (ws : List (List ℕ)) → Lists P ws → ((w : List ℕ) → P w → Q (b ∷ w)) → ((v : List ℕ) → Q v → (w : List ℕ) × (P w) × ((b ∷ w) ≡ v))
    → Lists Q (map (λ w. b ∷ w) ws)
lists_behind P Q b ws h to from = record { rising = rising; sound = sound; complete = λ v q. let z = from v q in at v z.0 z.2 (h.complete z.0 z.1) }
  where
    there : (i : ℕ) → i < length ws → (b ∷ get_or ws i []) ≡ get_or (map (λ w. b ∷ w) ws) i []
    there i l = sym (get_or-map (λ w. b ∷ w) ws i [] [] l)

    rising : (i j : ℕ) → i < j → j < length (map (λ w. b ∷ w) ws) → Before (get_or (map (λ w. b ∷ w) ws) i []) (get_or (map (λ w. b ∷ w) ws) j [])
    rising i j l z =
        let lj : j < length ws = omega (arith, length-map ws (λ w. b ∷ w)) in
        subst (λ x. Before x (get_or (map (λ w. b ∷ w) ws) j [])) (there i (omega arith))
        (subst (Before (b ∷ get_or ws i [])) (there j lj) (before_cons b (get_or ws i []) (get_or ws j []) (h.rising i j l lj)))

    sound : (i : ℕ) → i < length (map (λ w. b ∷ w) ws) → Q (get_or (map (λ w. b ∷ w) ws) i [])
    sound i l = let li : i < length ws = omega (arith, length-map ws (λ w. b ∷ w)) in subst Q (there i li) (to (get_or ws i []) (h.sound i li))

    at : (v w : List ℕ) → (b ∷ w) ≡ v → Member ws w → Member (map (λ w. b ∷ w) ws) v
    at v w e (i, l, f) = (i, omega (arith, length-map ws (λ w. b ∷ w)), sym (there i l) ∙ ap (λ x. b ∷ x) f ∙ e)

-- ---- the listing

-- w passes, and begins with one of the k numbers from b up
pub record Begins (m n : ℕ) (test : List ℕ → Bool) (b k : ℕ) (w : List ℕ) : Type 0 where
  pub passes : Passes (suc m) n test w
  pub from : b ≤ get_or w 0 0
  pub upto : get_or w 0 0 < b + k

passes_cons : (m n : ℕ) (test : List ℕ → Bool) (b : ℕ) (w : List ℕ) → b < n → Passes m n (λ v. test (b ∷ v)) w → Passes (suc m) n test (b ∷ w)
passes_cons m n test b w l h = record { whole = omega (arith, h.whole); below = below; passes = h.passes }
  where
    below : (u : ℕ) → u < suc m → get_or (b ∷ w) u 0 < n
    below zero z = l
    below (suc u) z = h.below u (omega arith)

passes_rest : (m n : ℕ) (test : List ℕ → Bool) (b : ℕ) (v : List ℕ) → Passes (suc m) n test v → get_or v 0 0 ≡ b → (w : List ℕ) × Passes m n (λ x. test (b ∷ x)) w × ((b ∷ w) ≡ v)
passes_rest m n test b [] h e = absurd (omega (arith, h.whole))
passes_rest m n test b (c ∷ w) h e =
    (w, record { whole = omega (arith, h.whole); below = λ u l. h.below (suc u) (omega arith); passes = ap (λ x. test (x ∷ w)) (sym e) ∙ h.passes }, λ i. sym e i ∷ w)

begins_before : (m n : ℕ) (test : List ℕ → Bool) (k : ℕ) (b : ℕ) (v w : List ℕ) → Passes (suc m) n test v → get_or v 0 0 ≡ b → Begins m n test (suc b) k w → Before v w
begins_before m n test k b [] w h e g = absurd (omega (arith, h.whole))
begins_before m n test k b (x ∷ v) [] h e g = absurd (omega (arith, g.passes.whole))
begins_before m n test k b (x ∷ v) (y ∷ w) h e g = before_heads x y v w (omega (arith, g.from))

headed_lists :
    (m n : ℕ) (test : List ℕ → Bool) (f : ℕ → List (List ℕ)) → ((b : ℕ) → Lists (Passes m n (λ w. test (b ∷ w))) (f b)) → (b k : ℕ) → b + k ≤ n
    → Lists (Begins m n test b k) (headed f b k)
unfolding headed
headed_lists m n test f each b zero l = lists_none (Begins m n test b 0) (λ w h. omega (arith, h.from, h.upto))
headed_lists m n test f each b (suc k) l =
    lists_append (λ v. Passes (suc m) n test v × (get_or v 0 0 ≡ b)) (Begins m n test (suc b) k) (Begins m n test b (suc k)) (map (λ w. b ∷ w) (f b)) (headed f (suc b) k)
    (lists_behind (Passes m n (λ w. test (b ∷ w))) (λ v. Passes (suc m) n test v × (get_or v 0 0 ≡ b)) b (f b) (each b)
    (λ w h. (passes_cons m n test b w (omega arith) h, refl)) (λ v h. passes_rest m n test b v h.0 h.1))
    (headed_lists m n test f each (suc b) k (omega arith))
    (λ v w h g. begins_before m n test k b v w h.0 h.1 g)
    (λ w h. record { passes = h.0; from = omega (arith, h.1); upto = omega (arith, h.1) })
    (λ w h. record { passes = h.passes; from = omega (arith, h.from); upto = omega (arith, h.upto) })
    (λ w h. elim (cases_eq (get_or w 0 0) b) [
      | inl e ↦ inl (h.passes, e)
      | inr ne ↦ inr (record { passes = h.passes; from = omega (arith, ne, h.from); upto = omega (arith, h.upto) })
    ])

-- no numbers: the empty list, or none
nothing : (n : ℕ) (test : List ℕ → Bool) (t : Bool) → test [] ≡ t → Lists (Passes 0 n test) (cond t ([] ∷ []) [])
nothing n test true e = record { rising = λ i j l z. absurd (omega arith); sound = sound; complete = λ w h. (0, omega arith, sym (nil_from_length w h.whole)) }
  where
    sound : (i : ℕ) → i < 1 → Passes 0 n test (get_or ([] ∷ []) i [])
    sound zero l = record { whole = refl; below = λ u z. absurd (omega arith); passes = e }
    sound (suc i) l = absurd (omega arith)
nothing n test false e = lists_none (Passes 0 n test) (λ w h. both_ways (test []) e (ap test (sym (nil_from_length w h.whole)) ∙ h.passes))

pub listing_lists : ListingIsAll
unfolding listing
listing_lists zero n test = nothing n test (test []) refl
listing_lists (suc m) n test =
    lists_like (Begins m n test 0 n) (Passes (suc m) n test) (λ w h. h.passes)
    (λ w h. record { passes = h; from = omega arith; upto = omega (arith, h.below 0 (omega arith)) })
    (headed (λ b. listing m n (λ w. test (b ∷ w))) 0 n)
    (headed_lists m n test (λ b. listing m n (λ w. test (b ∷ w))) (λ b. listing_lists m n (λ w. test (b ∷ w))) 0 n (omega arith))

pub find_answers : FindIsFirst
find_answers m n test = lists_answers (Passes m n test) (listing m n test) (listing_lists m n test)

-- ---- a property that a test decides, of lists of m numbers below n

module _
    (m n : ℕ) (test : List ℕ → Bool) (P : List ℕ → Type 0) (whole : (w : List ℕ) → P w → length w ≡ m) (below : (w : List ℕ) → P w → (u : ℕ) → u < m → get_or w u 0 < n)
    (decides : (w : List ℕ) → Decides (test w) (P w)) where
  pub listing_all : Lists P (listing m n test)
  listing_all =
      lists_like (Passes m n test) P (λ w h. (decides w).0 h.passes) (λ w p. record { whole = whole w p; below = below w p; passes = (decides w).1 p })
      (listing m n test) (listing_lists m n test)

  pub find_first : Answers P (find m n test)
  find_first = lists_answers P (listing m n test) listing_all

pub placements_listed : (a r : Graph) (strict : Bool) → Lists (Placement a r strict) (listing a.count r.count (placement_test a r strict))
placements_listed a r strict =
    listing_all a.count r.count (placement_test a r strict) (Placement a r strict) (λ w p. p.whole) (λ w p. p.on_bays) (placement_decides a r strict)
