-- The tries of a walk are the beginnings that it reaches. Assumes nothing.
use Rattle.std.proofs.Common.{◌≡◌, ℕ, zero, suc, ◌+◌, ◌<◌, ◌≤◌, Bool, true, false, cond, not, ◌&&◌, ◌||◌, eqb, List, [], ◌∷◌, length, get_or, drop, Some, None, Option, sym, refl, ap, ◌∙◌, subst, ap₂, inl, inr, arith, drop-cons}
use Rattle.std.proofs.lemmas.Bool.{eq-eqb, ne_eqb, lt-ltb, le-ltb, cases_lt}
use Rattle.std.proofs.lemmas.List.{get_or_past, drop_all}
use Rattle.std.proofs.lemmas.Bool.Decides.{nat_tests}
use Rattle.graphs.specs.Graph.{Sound}
use Rattle.placements.specs.Order.{Answers}
use Rattle.filters.specs.Filter.{Lawful}
use Rattle.filters.specs.Shapes.{shape_of}
use Rattle.search.specs.Walk.{Setting, filtered, Outcome, any_empty, after_try, offered, nothing, counted, or_else, scan, tried, settle, walk_from}
use Rattle.search.specs.Tries.{sum_of, list_count, reached, not_past, up_to, CountsTries}
use Rattle.std.proofs.Math.Bool.{and-true, and-false}
use Rattle.search.proofs.Placing.{Stands, Wanted, next_stands, try_first}
use Rattle.search.proofs.Steps.{tried_is}
use Rattle.search.proofs.Whole.{stands}

-- ---- sums and counts

sum_same : (b left : ℕ) (f g : ℕ → ℕ) → ((c : ℕ) → f c ≡ g c) → sum_of b left f ≡ sum_of b left g
sum_same b zero f g h = refl
sum_same b (suc left) f g h = ap₂ (λ (x y : ℕ). x + y) (h b) (sum_same (suc b) left f g h)

sum_none : (b left : ℕ) (f : ℕ → ℕ) → ((c : ℕ) → b ≤ c → f c ≡ 0) → sum_of b left f ≡ 0
sum_none b zero f h = refl
sum_none b (suc left) f h = let z = h b (omega arith) in let r = sum_none (suc b) left f (λ c l. h c (omega arith)) in omega arith

list_same : (k n : ℕ) (p q : List ℕ → Bool) → ((b : ℕ) (r : List ℕ) → p (b ∷ r) ≡ q (b ∷ r)) → list_count k n p ≡ list_count k n q
list_same zero n p q h = refl
list_same (suc k) n p q h =
    sum_same 0 n (λ b. cond (p (b ∷ [])) 1 0 + list_count k n (λ r. p (b ∷ r))) (λ b. cond (q (b ∷ [])) 1 0 + list_count k n (λ r. q (b ∷ r)))
    (λ b. ap₂ (λ (t : Bool) (m : ℕ). cond t 1 0 + m) (h b []) (list_same k n (λ r. p (b ∷ r)) (λ r. q (b ∷ r)) (λ c r. h b (c ∷ r))))

-- at one bay
abbrev at_bay : ℕ → ℕ → (List ℕ → Bool) → ℕ → ℕ
at_bay k n p b = cond (p (b ∷ [])) 1 0 + list_count k n (λ r. p (b ∷ r))

at_same : (k n : ℕ) (p q : List ℕ → Bool) (b : ℕ) → ((r : List ℕ) → p (b ∷ r) ≡ q r) → at_bay k n p b ≡ cond (q []) 1 0 + list_count k n q
at_same k n p q b h = ap₂ (λ (t : Bool) (m : ℕ). cond t 1 0 + m) (h []) (list_same k n (λ r. p (b ∷ r)) q (λ c r. h (c ∷ r)))

list_none : (k n : ℕ) (p : List ℕ → Bool) → ((b : ℕ) (r : List ℕ) → p (b ∷ r) ≡ false) → list_count k n p ≡ 0
list_none zero n p h = refl
list_none (suc k) n p h =
    sum_none 0 n (λ b. cond (p (b ∷ [])) 1 0 + list_count k n (λ r. p (b ∷ r)))
    (λ b l. ap₂ (λ (t : Bool) (m : ℕ). cond t 1 0 + m) (h b []) (list_none k n (λ r. p (b ∷ r)) (λ c r. h b (c ∷ r))))

at_none : (k n : ℕ) (p : List ℕ → Bool) (b : ℕ) → ((r : List ℕ) → p (b ∷ r) ≡ false) → at_bay k n p b ≡ 0
at_none k n p b h = at_same k n p (λ r. false) b h ∙ ap (λ (m : ℕ). 0 + m) (list_none k n (λ r. false) (λ c r. refl))

-- ---- a scan

module _ (n : ℕ) (offer : ℕ → Bool) (here : ℕ → Outcome) (key : List ℕ → ℕ) (count : Option (List ℕ) → ℕ → ℕ)
    (keyed : (b : ℕ) → offer b ≡ true → (q : List ℕ) → (here b).found ≡ Some q → key q ≡ b)
    (passed : (b : ℕ) (f : Option (List ℕ)) → offer b ≡ false → count f b ≡ 0)
    (failed : (b : ℕ) (f : Option (List ℕ)) → offer b ≡ true → (here b).found ≡ None → ((q : List ℕ) → f ≡ Some q → b < key q) → count f b ≡ (here b).tries)
    (there : (b : ℕ) (q : List ℕ) → offer b ≡ true → (here b).found ≡ Some q → count (Some q) b ≡ (here b).tries)
    (after : (b : ℕ) (q : List ℕ) → key q < b → count (Some q) b ≡ 0) where
  record Counts (b left : ℕ) (o : Outcome) : Type 0 where
    tries : o.tries ≡ sum_of b left (count o.found)
    from : (q : List ℕ) → o.found ≡ Some q → b ≤ key q

  at : (b left : ℕ) (rest : Outcome) → Counts (suc b) left rest → offer b ≡ true → (f : Option (List ℕ)) → (here b).found ≡ f → Counts b (suc left) (or_else f (here b).tries rest)
  at b left rest h o (Some q) x =
      let k : key q ≡ b = keyed b o q x in
      record {
        tries = (let t = there b q o x in let z = sum_none (suc b) left (count (Some q)) (λ c l. after c q (omega arith)) in omega arith);
        from = λ p y. (let z : q ≡ p = cc in let e = ap key z in omega arith);
      }
  at b left rest h o None x =
      record {
        tries = (let t = failed b rest.found o x (λ q y. let l = h.from q y in omega arith) in let r = h.tries in omega arith);
        from = λ q y. (let l = h.from q y in omega arith);
      }

  either : (b left : ℕ) (rest : Outcome) → Counts (suc b) left rest → (t : Bool) → offer b ≡ t
      → Counts b (suc left) (elim t as (λ _. Outcome) [ true ↦ or_else (here b).found (here b).tries rest | false ↦ rest ])
  either b left rest h true o = at b left rest h o (here b).found refl
  either b left rest h false o = record {
    tries = (let z = passed b rest.found o in let r = h.tries in omega arith);
    from = λ q y. (let l = h.from q y in omega arith);
  }

  scan_counts : (b left : ℕ) → Counts b left (scan offer here b left)
  unfolding scan
  scan_counts b zero = record { tries = refl; from = λ q y. absurd (let z : ◌≡◌ {A = ℕ} 0 1 = cc in omega arith) }
  scan_counts b (suc left) = either b left (scan offer here (suc b) left) (scan_counts (suc b) left) (offer b) refl

  pub scan_tries : (left : ℕ) → (scan offer here 0 left).tries ≡ sum_of 0 left (count (scan offer here 0 left).found)
  scan_tries left = (scan_counts 0 left).tries

-- ---- not past a list

past_same : (b : ℕ) (r q : List ℕ) → not_past (b ∷ r) (b ∷ q) ≡ not_past r q
past_same b r q = ap₂ (λ (s t : Bool). s || (t && not_past r q)) (le-ltb b b (omega arith)) (eq-eqb b b refl)

past_less : (b c : ℕ) (r q : List ℕ) → b < c → not_past (b ∷ r) (c ∷ q) ≡ true
past_less b c r q l = ap (λ (s : Bool). s || (eqb b c && not_past r q)) (lt-ltb b c l)

past_more : (b c : ℕ) (r q : List ℕ) → c < b → not_past (b ∷ r) (c ∷ q) ≡ false
past_more b c r q l = ap₂ (λ (s t : Bool). s || (t && not_past r q)) (le-ltb b c (omega arith)) (ne_eqb b c (λ z. omega arith))

-- what was found, from unit u on
abbrev tail_of : ℕ → Option (List ℕ) → Option (List ℕ)
tail_of u (Some q) = Some (drop u q)
tail_of u None = None

tail_all : (f : Option (List ℕ)) → tail_of 0 f ≡ f
tail_all (Some q) = refl
tail_all None = refl

up_less : (u b : ℕ) (f : Option (List ℕ)) (r : List ℕ) → ((q : List ℕ) → f ≡ Some q → b < get_or q u 0) → up_to (tail_of u f) (b ∷ r) ≡ true
up_less u b None r h = refl
up_less u b (Some q) r h =
    let less : b < get_or q u 0 = h q refl in
    elim (cases_lt u (length q)) [
      | inl l ↦ ap (not_past (b ∷ r)) (drop-cons q u 0 l) ∙ past_less b (get_or q u 0) r (drop (suc u) q) less
      | inr l ↦ absurd (let z = get_or_past q u 0 l in omega arith)
    ]

up_more : (u b : ℕ) (q r : List ℕ) → get_or q u 0 < b → not_past (b ∷ r) (drop u q) ≡ false
up_more u b q r more =
    elim (cases_lt u (length q)) [
      | inl l ↦ ap (not_past (b ∷ r)) (drop-cons q u 0 l) ∙ past_more b (get_or q u 0) r (drop (suc u) q) more
      | inr l ↦ ap (not_past (b ∷ r)) (drop_all u q l)
    ]

up_same : (u b : ℕ) (q r : List ℕ) → u < length q → get_or q u 0 ≡ b → not_past (b ∷ r) (drop u q) ≡ not_past r (drop (suc u) q)
up_same u b q r l e = ap (not_past (b ∷ r)) (drop-cons q u 0 l ∙ ap (λ (c : ℕ). c ∷ drop (suc u) q) e) ∙ past_same b r (drop (suc u) q)

-- ---- the walk

module _ (w : Setting) (last : List ℕ) (lawful : Lawful w.filter) (ga : Sound w.arrangement) (gr : Sound w.room) where
  abbrev m : ℕ
  m = w.arrangement.count

  abbrev n : ℕ
  n = w.room.count

  abbrev Reached : ℕ → Bool → List ℕ → Option (List ℕ) → List ℕ → Bool
  Reached u tied rows f p = reached w last tied u rows p && up_to (tail_of u f) p

  module _ (tied : Bool) (u later b : ℕ) (rows : List ℕ) (e : u + suc later ≡ m) (st : Stands w last tied u rows) where
    abbrev next : List ℕ
    next = after_try w u b rows

    abbrev tied' : Bool
    tied' = tied && eqb b (get_or last u 0)

    abbrev Below : Outcome
    Below = settle w last later tied' (suc u) next

    abbrev Here : Outcome
    Here = tried (settle w last later tied' (suc u)) next

    abbrev Offered : Bool
    Offered = offered (get_or rows u 0) tied (get_or last u 0) (eqb later 0) b

    reach : (r : List ℕ) (t : Bool) → Offered ≡ t → reached w last tied u rows (b ∷ r) ≡ (t && reached w last tied' (suc u) next r)
    reach r t o =
        ap₂ (λ (s x : Bool). not s && (offered (get_or rows u 0) tied (get_or last u 0) x b && reached w last tied' (suc u) next r)) st.full (let z : eqb (suc u) m ≡ eqb later 0 = grind (arith, nat_tests) in z)
        ∙ ap (λ (s : Bool). s && reached w last tied' (suc u) next r) o

    bay_passed : (f : Option (List ℕ)) → Offered ≡ false → at_bay later n (Reached u tied rows f) b ≡ 0
    bay_passed f o = at_none later n (Reached u tied rows f) b (λ r. ap (λ (s : Bool). s && up_to (tail_of u f) (b ∷ r)) (reach r false o))

    bay_after : (q : List ℕ) → get_or q u 0 < b → at_bay later n (Reached u tied rows (Some q)) b ≡ 0
    bay_after q l =
        at_none later n (Reached u tied rows (Some q)) b
        (λ r. ap (λ (s : Bool). reached w last tied u rows (b ∷ r) && s) (up_more u b q r l) ∙ and-false (reached w last tied u rows (b ∷ r)))

    module _ (o : Offered ≡ true) (below : any_empty next ≡ false → Below.tries ≡ list_count later n (Reached (suc u) tied' next Below.found)) where
      bay_failed : (f : Option (List ℕ)) → Here.found ≡ None → ((q : List ℕ) → f ≡ Some q → b < get_or q u 0) → at_bay later n (Reached u tied rows f) b ≡ Here.tries
      bay_failed f none h = all ∙ go (any_empty next) refl
        where
          all : at_bay later n (Reached u tied rows f) b ≡ 1 + list_count later n (reached w last tied' (suc u) next)
          all = at_same later n (Reached u tied rows f) (reached w last tied' (suc u) next) b
              (λ r. ap₂ (λ (s t : Bool). s && t) (reach r true o) (up_less u b f r h) ∙ and-true (reached w last tied' (suc u) next r))

          go : (t : Bool) → any_empty next ≡ t → 1 + list_count later n (reached w last tied' (suc u) next) ≡ Here.tries
          go true z =
              ap (λ (k : ℕ). 1 + k) (list_none later n (reached w last tied' (suc u) next)
              (λ c r. ap (λ (s : Bool). not s && (offered (get_or next (suc u) 0) tied' (get_or last (suc u) 0) (eqb (suc (suc u)) m) c && reached w last (tied' && eqb c (get_or last (suc u) 0)) (suc (suc u)) (after_try w (suc u) c next) r)) z))
              ∙ sym (ap (λ (x : Outcome). x.tries) (tried_is (settle w last later tied' (suc u)) next true z))
          go false z =
              let is : Here ≡ counted Below = tried_is (settle w last later tied' (suc u)) next false z in
              let found : Below.found ≡ None = sym (ap (λ (x : Outcome). x.found) is) ∙ none in
              ap (λ (k : ℕ). 1 + k)
              (list_same later n (reached w last tied' (suc u) next) (Reached (suc u) tied' next Below.found)
              (λ c r. sym (ap (λ (x : Option (List ℕ)). reached w last tied' (suc u) next (c ∷ r) && up_to (tail_of (suc u) x) (c ∷ r)) found ∙ and-true (reached w last tied' (suc u) next (c ∷ r))))
              ∙ sym (below z))
              ∙ sym (ap (λ (x : Outcome). x.tries) is)

      bay_there : (q : List ℕ) → u < length q → get_or q u 0 ≡ b → Here.found ≡ Some q → at_bay later n (Reached u tied rows (Some q)) b ≡ Here.tries
      bay_there q l k found = all ∙ go (any_empty next) refl
        where
          all : at_bay later n (Reached u tied rows (Some q)) b ≡ 1 + list_count later n (Reached (suc u) tied' next (Some q))
          all = at_same later n (Reached u tied rows (Some q)) (Reached (suc u) tied' next (Some q)) b
              (λ r. ap₂ (λ (s t : Bool). s && t) (reach r true o) (up_same u b q r l k))

          go : (t : Bool) → any_empty next ≡ t → 1 + list_count later n (Reached (suc u) tied' next (Some q)) ≡ Here.tries
          go true z = absurd (let y : ◌≡◌ {A = Option (List ℕ)} None (Some q) = sym (ap (λ (x : Outcome). x.found) (tried_is (settle w last later tied' (suc u)) next true z)) ∙ found in let x : ◌≡◌ {A = ℕ} 0 1 = cc in omega arith)
          go false z =
              let is : Here ≡ counted Below = tried_is (settle w last later tied' (suc u)) next false z in
              let same : Below.found ≡ Some q = sym (ap (λ (x : Outcome). x.found) is) ∙ found in
              ap (λ (f : Option (List ℕ)). 1 + list_count later n (Reached (suc u) tied' next f)) (sym same)
              ∙ ap (λ (k : ℕ). 1 + k) (sym (below z))
              ∙ sym (ap (λ (x : Outcome). x.tries) is)

    -- a find has the bay at its unit
    bay_key : Offered ≡ true → (q : List ℕ) → Here.found ≡ Some q → (get_or q u 0 ≡ b) × (u < length q)
    bay_key o q found =
        let a : Answers (λ x. Wanted w last tied rows x × (get_or x u 0 ≡ b)) (Some q) = subst (Answers (λ x. Wanted w last tied rows x × (get_or x u 0 ≡ b))) found (try_first w last lawful ga gr tied u later b rows e st o) in
        (a.holds.1, (let long = a.holds.0.placed.whole in omega arith))

  settle_tries : (later : ℕ) (tied : Bool) (u : ℕ) (rows : List ℕ) → u + later ≡ m → Stands w last tied u rows
      → (settle w last later tied u rows).tries ≡ list_count later n (Reached u tied rows (settle w last later tied u rows).found)
  unfolding settle
  settle_tries zero tied u rows e st = refl
  settle_tries (suc later) tied u rows e st =
      let below : (b : ℕ) → offered (get_or rows u 0) tied (get_or last u 0) (eqb later 0) b ≡ true → any_empty (after_try w u b rows) ≡ false
      → (settle w last later (tied && eqb b (get_or last u 0)) (suc u) (after_try w u b rows)).tries
      ≡ list_count later n (Reached (suc u) (tied && eqb b (get_or last u 0)) (after_try w u b rows) (settle w last later (tied && eqb b (get_or last u 0)) (suc u) (after_try w u b rows)).found) =
      λ b o z. settle_tries later (tied && eqb b (get_or last u 0)) (suc u) (after_try w u b rows) (omega arith) (next_stands w last lawful ga gr tied u later b rows e st o z) in
      scan_tries n (offered (get_or rows u 0) tied (get_or last u 0) (eqb later 0))
      (λ b. tried (settle w last later (tied && eqb b (get_or last u 0)) (suc u)) (after_try w u b rows))
      (λ q. get_or q u 0)
      (λ f b. at_bay later n (Reached u tied rows f) b)
      (λ b o q x. (bay_key tied u later b rows e st o q x).0)
      (λ b f o. bay_passed tied u later b rows e st f o)
      (λ b f o none h. bay_failed tied u later b rows e st o (below b o) f none h)
      (λ b q o x. let k = bay_key tied u later b rows e st o q x in bay_there tied u later b rows e st o (below b o) q k.1 k.0 x)
      (λ b q l. bay_after tied u later b rows e st q l)
      n

pub counts_tries : CountsTries
unfolding walk_from
counts_tries w last tied rows lawful ga gr sh = go (any_empty (filtered w rows)) refl
  where
    go : (t : Bool) → any_empty (filtered w rows) ≡ t
        → ◌≡◌ {A = ℕ} (elim t as (λ _. Outcome) [ true ↦ nothing 0 | false ↦ settle w last w.arrangement.count tied 0 (filtered w rows) ]).tries
        (list_count w.arrangement.count w.room.count (λ p. reached w last tied 0 (filtered w rows) p
        && up_to (elim t as (λ _. Outcome) [ true ↦ nothing 0 | false ↦ settle w last w.arrangement.count tied 0 (filtered w rows) ]).found p))
    go true z =
        sym (list_none w.arrangement.count w.room.count (λ p. reached w last tied 0 (filtered w rows) p && true)
        (λ b r. ap (λ (s : Bool). (not s && (offered (get_or (filtered w rows) 0 0) tied (get_or last 0 0) (eqb 1 w.arrangement.count) b && reached w last (tied && eqb b (get_or last 0 0)) 1 (after_try w 0 b (filtered w rows)) r)) && true) z))
    go false z =
        settle_tries w last lawful ga gr w.arrangement.count tied 0 (filtered w rows) (omega arith)
        (stands w last tied rows lawful ga gr (shape_of w.arrangement w.room rows sh) z)
        ∙ ap (λ (f : Option (List ℕ)). list_count w.arrangement.count w.room.count (λ p. reached w last tied 0 (filtered w rows) p && up_to f p)) (tail_all (settle w last w.arrangement.count tied 0 (filtered w rows)).found)
