-- The walk finds the first placement in dictionary order. Assumes nothing.
use Rattle.std.proofs.Common.{◌≡◌, ℕ, zero, suc, ◌+◌, ◌^◌, ◌<◌, ◌≤◌, Bool, true, false, cond, ◌&&◌, ◌||◌, eqb, ltb, List, [], ◌∷◌, length, get_or, Some, sym, refl, ap, ◌∙◌, subst, subst₂, inl, inr, arith}
use lib.Count.{count_trailing_zeros}
use lib.ListN.{length-map}
use Rattle.std.proofs.lemmas.List.{ext_get_or, get_or-map}
use Rattle.std.proofs.lemmas.Bool.{eqb-true, eqb-false, eq-eqb, ltb-true, ltb-false, cases_lt, cases_eq, cases_order, cases_Bool, both_ways, and_parts, and_cases, or_cases, or_left, or_right, and_from, not-true, not-false, lt-ltb}
use Rattle.graphs.specs.Rows.{bit, row_of}
use Rattle.graphs.specs.Graph.{Sound}
use Rattle.graphs.proofs.Bits.{bit_of_and, bit_bit, bit_bit_only, bit_none, bit_lowest_among}
use Rattle.graphs.proofs.Rows.{bit_row_of}
use Rattle.placements.specs.Agreement.{agrees}
use Rattle.placements.specs.Placement.{Placement}
use Rattle.placements.specs.Order.{Before, Answers}
use Rattle.filters.specs.Filter.{Lawful, empty_count}
use Rattle.search.specs.Walk.{Setting, filtered, Outcome, any_empty, narrowed_row, narrowed, after_try, offered, chosen, nothing, counted, tried, settle}
use Rattle.search.proofs.Agreement.{agrees_flip}
use Rattle.search.proofs.Narrowing.{narrow_long, narrow_at, narrow_below, narrow_here, narrow_above, narrow_inside, above_holds}
use Rattle.search.proofs.Scan.{answers_iff, scan_first}

-- ---- rows

pub none_empty : (rows : List ℕ) (i : ℕ) → empty_count rows ≤ 0 → i < length rows → 0 < get_or rows i 0
none_empty [] i e l = absurd (omega arith)
none_empty (r ∷ rows) zero e l =
    elim (cases_Bool (eqb r 0)) [
      | inl z ↦ absurd (let k : ◌≡◌ {A = ℕ} (cond (eqb r 0) 1 0) 1 = ap (λ (t : Bool). cond t 1 0) z in omega arith)
      | inr z ↦ let n = eqb-false r 0 z in omega (arith, n)
    ]
none_empty (r ∷ rows) (suc i) e l = none_empty rows i (omega arith) (omega arith)

pub one_empty : (rows : List ℕ) → 0 < empty_count rows → (i : ℕ) × (i < length rows) × (get_or rows i 0 ≡ 0)
one_empty [] e = absurd (omega arith)
one_empty (r ∷ rows) e =
    elim (cases_Bool (eqb r 0)) [
      | inl z ↦ (0, omega arith, eqb-true r 0 z)
      | inr z ↦ let k : ◌≡◌ {A = ℕ} (cond (eqb r 0) 1 0) 0 = ap (λ (t : Bool). cond t 1 0) z in
          let s = one_empty rows (omega arith) in (suc s.0, omega (arith, s.1), s.2)
    ]

-- ---- the walk

-- What holds when the units below u are settled.
pub record Stands (w : Setting) (last : List ℕ) (tied : Bool) (u : ℕ) (rows : List ℕ) : Type 0 where
  pub long : length rows ≡ w.arrangement.count
  pub low : (i c : ℕ) → bit (get_or rows i 0) c ≡ true → c < w.room.count
  pub full : any_empty rows ≡ false
  pub settled : (i j c d : ℕ) → i < u → i < j → j < w.arrangement.count → bit (get_or rows i 0) c ≡ true → bit (get_or rows j 0) d ≡ true → agrees w.arrangement w.room w.strict i c j d ≡ true
  pub single : (i c d : ℕ) → i < u → bit (get_or rows i 0) c ≡ true → bit (get_or rows i 0) d ≡ true → c ≡ d
  pub level : tied ≡ true → (i c : ℕ) → i < u → bit (get_or rows i 0) c ≡ true → c ≡ get_or last i 0
  pub apart : tied ≡ true → u < w.arrangement.count

-- a placement within the rows, and while tied after the last answer
pub record Wanted (w : Setting) (last : List ℕ) (tied : Bool) (rows q : List ℕ) : Type 0 where
  pub placed : Placement w.arrangement w.room w.strict q
  pub within : (u : ℕ) → u < w.arrangement.count → bit (get_or rows u 0) (get_or q u 0) ≡ true
  pub after : tied ≡ true → Before last q

-- a lawful filter keeps what is wanted
pub kept : (w : Setting) → Lawful w.filter → Sound w.arrangement → Sound w.room → (rows q : List ℕ) → Placement w.arrangement w.room w.strict q
    → ((u : ℕ) → u < w.arrangement.count → bit (get_or rows u 0) (get_or q u 0) ≡ true)
    → (u : ℕ) → u < w.arrangement.count → bit (get_or (filtered w rows) u 0) (get_or q u 0) ≡ true
kept w lawful ga gr rows q placed within u l =
    let whole = placed.whole in
    lawful.keeps w.arrangement w.room w.strict rows q ga gr placed (λ i li. within i (omega arith)) u (omega arith)

module _ (w : Setting) (last : List ℕ) (lawful : Lawful w.filter) (gu : Sound w.arrangement) (gb : Sound w.room) where
  abbrev m : ℕ
  m = w.arrangement.count

  lowest_in : (tied : Bool) (u : ℕ) (rows : List ℕ) → Stands w last tied u rows → (i : ℕ) → i < m → bit (get_or rows i 0) (get_or (chosen rows) i 0) ≡ true
  lowest_in tied u rows st i l =
      let within : i < length rows = omega (arith, st.long) in
      subst (λ (c : ℕ). bit (get_or rows i 0) c ≡ true) (sym (get_or-map (count_trailing_zeros 64) rows i 0 0 within))
      (bit_lowest_among 64 (get_or rows i 0) (none_empty rows i (ltb-false 0 (empty_count rows) st.full) within) (λ c h. let b = st.low i c h in let f = gb.few in omega arith))

  leaf : (tied : Bool) (u : ℕ) (rows : List ℕ) → u ≡ m → Stands w last tied u rows → Answers (Wanted w last tied rows) (Some (chosen rows))
  leaf tied u rows e st =
      let at : ℕ → ℕ = λ i. get_or (chosen rows) i 0 in
      let isin : (i : ℕ) → i < m → bit (get_or rows i 0) (at i) ≡ true = lowest_in tied u rows st in
      record {
        holds = record {
          placed = record {
            whole = length-map rows (count_trailing_zeros 64) ∙ st.long;
            on_bays = λ i l. st.low i (at i) (isin i l);
            agree = λ i j li lj ne. elim (cases_order i j) [
              | inl same ↦ absurd (ne same)
              | inr o ↦ elim o [
                | inl less ↦ st.settled i j (at i) (at j) (omega arith) less lj (isin i li) (isin j lj)
                | inr more ↦ agrees_flip w.room (w.arrangement.joined i j) (w.arrangement.joined j i) w.strict (at i) (at j) ∙ st.settled j i (at j) (at i) (omega arith) more li (isin j lj) (isin i li)
              ]
            ];
          };
          within = isin;
          after = λ t. absurd (let l = st.apart t in omega arith);
        };
        least = λ q h. inl (ext_get_or 0 (chosen rows) q (length-map rows (count_trailing_zeros 64) ∙ st.long ∙ sym h.placed.whole)
            (λ i l. let li : i < m = omega (arith, length-map rows (count_trailing_zeros 64), st.long) in st.single i (at i) (get_or q i 0) (omega arith) (isin i li) (h.within i li)));
      }

  -- ---- one try: unit u takes the bay b

  module _ (tied : Bool) (u later b : ℕ) (rows : List ℕ) (e : u + suc later ≡ m) (st : Stands w last tied u rows) where
    abbrev next : List ℕ
    next = after_try w u b rows

    abbrev tied' : Bool
    tied' = tied && eqb b (get_or last u 0)

    next_long : length next ≡ m
    next_long = lawful.as_many w.arrangement w.room w.strict (narrowed w.arrangement w.room w.strict u b rows) ∙ narrow_long w.arrangement w.room w.strict u b rows ∙ st.long

    next_in : (i c : ℕ) → i < m → bit (get_or next i 0) c ≡ true → bit (narrowed_row w.arrangement w.room w.strict u b rows i) c ≡ true
    next_in i c l h = ap (λ (r : ℕ). bit r c) (sym (narrow_at w.arrangement w.room w.strict u b rows i (let e = st.long in omega arith))) ∙ lawful.adds_none w.arrangement w.room w.strict (narrowed w.arrangement w.room w.strict u b rows) i c h

    next_here : (c : ℕ) → bit (get_or next u 0) c ≡ true → c ≡ b
    next_here c h = bit_bit_only b c (ap (λ (r : ℕ). bit r c) (sym (narrow_here w.arrangement w.room w.strict u b rows)) ∙ next_in u c (omega arith) h)

    next_above : (i c : ℕ) → u < i → i < m → bit (get_or next i 0) c ≡ true → (bit (get_or rows i 0) c ≡ true) × (agrees w.arrangement w.room w.strict u b i c ≡ true)
    next_above i c l li h = above_holds w.arrangement w.room w.strict u b rows i c l (next_in i c li h)

    module _ (held : bit (get_or rows u 0) b ≡ true) where
      next_back : (i c : ℕ) → bit (get_or next i 0) c ≡ true → bit (get_or rows i 0) c ≡ true
      next_back i c h =
          narrow_inside w.arrangement w.room w.strict u b rows held i c
          (lawful.adds_none w.arrangement w.room w.strict (narrowed w.arrangement w.room w.strict u b rows) i c h)

      -- a wanted placement with the bay b at unit u is within the rows after the try
      to_next : (q : List ℕ) → Wanted w last tied rows q → get_or q u 0 ≡ b → Wanted w last tied' next q
      to_next q h at =
          let mask : ℕ → ℕ = λ i. row_of w.room.count (λ x. agrees w.arrangement w.room w.strict u b i x) in
          record {
            placed = h.placed;
            within = kept w lawful gu gb (narrowed w.arrangement w.room w.strict u b rows) q h.placed
                (λ i l. ap (λ (r : ℕ). bit r (get_or q i 0)) (narrow_at w.arrangement w.room w.strict u b rows i (let e = st.long in omega arith)) ∙ elim (cases_order i u) [
                  | inl z ↦ subst (λ (x : ℕ). bit (narrowed_row w.arrangement w.room w.strict u b rows x) (get_or q x 0) ≡ true) (sym z)
                      (ap (λ (r : ℕ). bit r (get_or q u 0)) (narrow_here w.arrangement w.room w.strict u b rows) ∙ ap (λ (y : ℕ). bit (2 ^ b) y) at ∙ bit_bit b)
                  | inr o ↦ elim o [
                    | inl below ↦ ap (λ (r : ℕ). bit r (get_or q i 0)) (narrow_below w.arrangement w.room w.strict u b rows i below) ∙ h.within i l
                    | inr above ↦ ap (λ (r : ℕ). bit r (get_or q i 0)) (narrow_above w.arrangement w.room w.strict u b rows i above) ∙ bit_of_and (get_or rows i 0) (mask i) (get_or q i 0)
                        ∙ and_from (bit (get_or rows i 0) (get_or q i 0)) (bit (mask i) (get_or q i 0)) (h.within i l)
                        (bit_row_of w.room.count (λ x. agrees w.arrangement w.room w.strict u b i x) (get_or q i 0) ∙ and_from _ _ (lt-ltb (get_or q i 0) w.room.count (h.placed.on_bays i l))
                        (subst (λ (y : ℕ). agrees w.arrangement w.room w.strict u y i (get_or q i 0) ≡ true) at (h.placed.agree u i (omega arith) l (λ z. omega arith))))
                  ]
                ]);
            after = λ t. h.after (and_parts tied (eqb b (get_or last u 0)) t).0;
          }

      from_next : (q : List ℕ) → (tied ≡ true → b < get_or last u 0 → ⊥) → Wanted w last tied' next q → Wanted w last tied rows q × (get_or q u 0 ≡ b)
      from_next q fair h =
          let at : get_or q u 0 ≡ b = next_here (get_or q u 0) (h.within u (omega arith)) in
          let within : (k : ℕ) → k < m → bit (get_or rows k 0) (get_or q k 0) ≡ true = λ i l. next_back i (get_or q i 0) (h.within i l) in (
            record {
              placed = h.placed;
              within = within;
              after = λ t. elim (cases_order b (get_or last u 0)) [
                | inl z ↦ h.after (and_from tied (eqb b (get_or last u 0)) t (eq-eqb b (get_or last u 0) z))
                | inr o ↦ elim o [
                  | inl less ↦ absurd (fair t less)
                  | inr more ↦ record {
                    unit = u;
                    below = omega arith;
                    same = λ k l. sym (st.level t k (get_or q k 0) l (within k (omega arith)));
                    lower = omega arith;
                  }
                ]
              ];
            },
            at,
          )

      sub_stands : (tied' ≡ true → later ≡ 0 → ⊥) → any_empty next ≡ false → Stands w last tied' (suc u) next
      sub_stands notlast full =
          record {
            long = next_long;
            low = λ i c h. st.low i c (next_back i c h);
            full = full;
            settled = λ i j c d l lj ljm hc hd. elim (cases_lt i u) [
              | inl below ↦ st.settled i j c d below lj ljm (next_back i c hc) (next_back j d hd)
              | inr here ↦ (let z : i ≡ u = omega arith in
                  let cb : c ≡ b = next_here c (subst (λ (x : ℕ). bit (get_or next x 0) c ≡ true) z hc) in
                  subst₂ (λ (x y : ℕ). agrees w.arrangement w.room w.strict x y j d ≡ true) (sym z) (sym cb) (next_above j d (omega arith) ljm hd).1)
            ];
            single = λ i c d l hc hd. elim (cases_lt i u) [
              | inl below ↦ st.single i c d below (next_back i c hc) (next_back i d hd)
              | inr here ↦ (let z : i ≡ u = omega arith in
                  next_here c (subst (λ (x : ℕ). bit (get_or next x 0) c ≡ true) z hc) ∙ sym (next_here d (subst (λ (x : ℕ). bit (get_or next x 0) d ≡ true) z hd)))
            ];
            level = λ t i c l hc. elim (cases_lt i u) [
              | inl below ↦ st.level (and_parts tied (eqb b (get_or last u 0)) t).0 i c below (next_back i c hc)
              | inr here ↦ (let z : i ≡ u = omega arith in
                  next_here c (subst (λ (x : ℕ). bit (get_or next x 0) c ≡ true) z hc)
                  ∙ eqb-true b (get_or last u 0) (and_parts tied (eqb b (get_or last u 0)) t).1
                  ∙ ap (λ (x : ℕ). get_or last x 0) (sym z))
            ];
            apart = λ t. elim (cases_eq later 0) [ inl z ↦ absurd (notlast t z) | inr ne ↦ omega arith ];
          }

    -- a bay that is passed over bit no wanted placement
    no_offer : offered (get_or rows u 0) tied (get_or last u 0) (eqb later 0) b ≡ false → (q : List ℕ) → Wanted w last tied rows q → get_or q u 0 ≡ b → ⊥
    no_offer off q h at =
        let held : bit (get_or rows u 0) b ≡ true = subst (λ (y : ℕ). bit (get_or rows u 0) y ≡ true) at (h.within u (omega arith)) in
        let l : ℕ = get_or last u 0 in
        elim (and_cases (bit (get_or rows u 0) b) _ off) [
          | inl z ↦ both_ways _ z held
          | inr z ↦ (let t = and_parts tied (ltb b l || eqb b l && eqb later 0) (not-false _ z) in
              let B = h.after t.0 in
              let same_below : (k : ℕ) → k < u → get_or q k 0 ≡ get_or last k 0 = λ k lk. st.level t.0 k (get_or q k 0) lk (h.within k (omega arith)) in
              elim (cases_order B.unit u) [
                | inl x ↦ (let low : l < get_or q u 0 = subst (λ (y : ℕ). get_or last y 0 < get_or q y 0) x B.lower in
                    elim (or_cases (ltb b l) (eqb b l && eqb later 0) t.1) [
                      | inl y ↦ (let f = ltb-true b l y in omega arith)
                      | inr y ↦ (let f = eqb-true b l (and_parts (eqb b l) (eqb later 0) y).0 in omega arith)
                    ])
                | inr o ↦ elim o [
                  | inl below ↦ (let s = same_below B.unit below in let f = B.lower in omega arith)
                  | inr above ↦ (let s : l ≡ get_or q u 0 = B.same u above in
                      elim (or_cases (ltb b l) (eqb b l && eqb later 0) t.1) [
                        | inl y ↦ (let f = ltb-true b l y in omega arith)
                        | inr y ↦ (let f = eqb-true later 0 (and_parts (eqb b l) (eqb later 0) y).1 in let g = B.below in omega arith)
                      ])
                ]
              ])
        ]

    -- what an offered bay says
    offer_held : offered (get_or rows u 0) tied (get_or last u 0) (eqb later 0) b ≡ true → bit (get_or rows u 0) b ≡ true
    offer_held o = (and_parts (bit (get_or rows u 0) b) _ o).0

    offer_open : offered (get_or rows u 0) tied (get_or last u 0) (eqb later 0) b ≡ true → (tied && (ltb b (get_or last u 0) || eqb b (get_or last u 0) && eqb later 0)) ≡ false
    offer_open o = not-true _ (and_parts (bit (get_or rows u 0) b) _ o).1

    offer_fair : offered (get_or rows u 0) tied (get_or last u 0) (eqb later 0) b ≡ true → tied ≡ true → b < get_or last u 0 → ⊥
    offer_fair o t l = both_ways _ (offer_open o) (and_from tied _ t (or_left _ _ (lt-ltb b (get_or last u 0) l)))

    offer_inner : offered (get_or rows u 0) tied (get_or last u 0) (eqb later 0) b ≡ true → tied' ≡ true → later ≡ 0 → ⊥
    offer_inner o t z =
        let ts = and_parts tied (eqb b (get_or last u 0)) t in
        both_ways _ (offer_open o) (and_from tied _ ts.0 (or_right (ltb b (get_or last u 0)) _ (and_from _ _ ts.1 (eq-eqb later 0 z))))

    pub next_stands : offered (get_or rows u 0) tied (get_or last u 0) (eqb later 0) b ≡ true → any_empty (after_try w u b rows) ≡ false
        → Stands w last (tied && eqb b (get_or last u 0)) (suc u) (after_try w u b rows)
    next_stands o z = sub_stands (offer_held o) (offer_inner o) z

    -- the try's outcome, from that of the walk below it
    attempt : offered (get_or rows u 0) tied (get_or last u 0) (eqb later 0) b ≡ true → (deeper : Outcome) → (any_empty next ≡ false → Answers (Wanted w last tied' next) deeper.found) → (t : Bool) → any_empty next ≡ t
        → Answers (λ q. Wanted w last tied rows q × (get_or q u 0 ≡ b)) (elim t as (λ _. Outcome) [ true ↦ nothing 1 | false ↦ deeper ]).found
    attempt o deeper a true z = λ q h.
        let s = one_empty next (ltb-true 0 (empty_count next) z) in
        let f = (to_next (offer_held o) q h.0 h.1).within s.0 (omega (arith, s.1, next_long)) in
        both_ways _ (ap (λ (r : ℕ). bit r (get_or q s.0 0)) s.2 ∙ bit_none (get_or q s.0 0)) f
    attempt o deeper a false z =
        answers_iff (Wanted w last tied' next) (λ q. Wanted w last tied rows q × (get_or q u 0 ≡ b)) deeper.found
        (λ q h. from_next (offer_held o) q (offer_fair o) h)
        (λ q h. to_next (offer_held o) q h.0 h.1)
        (a z)

  -- what a try comes to, where the walk below finds the first
  try_with : (tied : Bool) (u later b : ℕ) (rows : List ℕ) → u + suc later ≡ m → Stands w last tied u rows → offered (get_or rows u 0) tied (get_or last u 0) (eqb later 0) b ≡ true
      → ((tied' : Bool) (rows' : List ℕ) → Stands w last tied' (suc u) rows' → Answers (Wanted w last tied' rows') (settle w last later tied' (suc u) rows').found)
      → Answers (λ q. Wanted w last tied rows q × (get_or q u 0 ≡ b)) (tried (settle w last later (tied && eqb b (get_or last u 0)) (suc u)) (after_try w u b rows)).found
  try_with tied u later b rows e st o below =
      attempt tied u later b rows e st o
      (counted (settle w last later (tied && eqb b (get_or last u 0)) (suc u) (after_try w u b rows)))
      (λ z. below (tied && eqb b (get_or last u 0)) (after_try w u b rows) (next_stands tied u later b rows e st o z))
      (any_empty (after_try w u b rows)) refl

  pub settle_first : (later : ℕ) (tied : Bool) (u : ℕ) (rows : List ℕ) → u + later ≡ m → Stands w last tied u rows → Answers (Wanted w last tied rows) (settle w last later tied u rows).found
  unfolding settle
  settle_first zero tied u rows e st = leaf tied u rows (omega arith) st
  settle_first (suc later) tied u rows e st =
      scan_first w.room.count (Wanted w last tied rows) (λ q. get_or q u 0) (offered (get_or rows u 0) tied (get_or last u 0) (eqb later 0)) _
      (λ q h. h.placed.on_bays u (omega arith))
      (λ p q hp hq l. record {
        unit = u;
        below = omega arith;
        same = λ k lk. st.single k (get_or p k 0) (get_or q k 0) lk (hp.within k (omega arith)) (hq.within k (omega arith));
        lower = l;
      })
      (λ b o l. try_with tied u later b rows e st o (λ tied' rows' s. settle_first later tied' (suc u) rows' (omega arith) s))
      (λ b o l. no_offer tied u later b rows e st o)

  pub try_first : (tied : Bool) (u later b : ℕ) (rows : List ℕ) → u + suc later ≡ m → Stands w last tied u rows → offered (get_or rows u 0) tied (get_or last u 0) (eqb later 0) b ≡ true
      → Answers (λ q. Wanted w last tied rows q × (get_or q u 0 ≡ b)) (tried (settle w last later (tied && eqb b (get_or last u 0)) (suc u)) (after_try w u b rows)).found
  try_first tied u later b rows e st o = try_with tied u later b rows e st o (λ tied' rows' s. settle_first later tied' (suc u) rows' (omega arith) s)
