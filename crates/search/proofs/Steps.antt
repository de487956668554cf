-- The steps of the loop over the bays of one unit. Assumes nothing.
use Rattle.std.proofs.Common.{◌≡◌, ℕ, zero, suc, ◌+◌, ◌-◌, ◌<◌, ◌≤◌, min, Bool, true, false, not, ◌&&◌, eqb, leb, List, ◌++◌, length, get_or, is_some, Some, None, Option, sym, refl, ap, ◌∙◌, subst, inl, inr, arith}
use borrow.Rule.Slice.PartMut.{post_of, same_len_mid}
use Rattle.std.proofs.lemmas.List.{length-take-le}
use Rattle.std.proofs.lemmas.Bool.{both_ways, le-leb, lt-leb, leb-true, eq-eqb, ne_eqb, cases_eq, cases_lt, cases_Bool, and_parts, and_right}
use Rattle.std.proofs.lemmas.Bool.Decides.{nat_tests}
use Rattle.graphs.specs.Rows.{bit}
use Rattle.graphs.proofs.Bits.{bit_none}
use Rattle.graphs.proofs.Lowest.{Turn}
use Rattle.filters.specs.Filter.{Lawful}
use Rattle.search.specs.Walk.{Setting, Outcome, any_empty, narrowed, after_try, offered, nothing, counted, or_else, scan, tried, settle, chosen}
use Rattle.std.proofs.Math.Bool.{and-true}
use Rattle.search.proofs.Narrowing.{narrow_long}

-- ---- a scan

module _ (offer : ℕ → Bool) (here : ℕ → Outcome) (n b : ℕ) (l : b < n) where
  whole_step : scan offer here b (n - b) ≡ scan offer here b (suc (n - (b + 1)))
  whole_step = ap (scan offer here b) (let z : n - b ≡ suc (n - (b + 1)) = omega arith in z)

  next_is : scan offer here (suc b) (n - (b + 1)) ≡ scan offer here (b + 1) (n - (b + 1))
  next_is = ap (λ (x : ℕ). scan offer here x (n - (b + 1))) (let z : suc b ≡ b + 1 = omega arith in z)

  either : Bool → Outcome
  either t = elim t as (λ _. Outcome) [ true ↦ or_else (here b).found (here b).tries (scan offer here (suc b) (n - (b + 1))) | false ↦ scan offer here (suc b) (n - (b + 1)) ]

  scan_pass : offer b ≡ false → scan offer here b (n - b) ≡ scan offer here (b + 1) (n - (b + 1))
  unfolding scan either
  scan_pass e = whole_step ∙ ap either e ∙ next_is

  pub scan_try : offer b ≡ true → scan offer here b (n - b) ≡ or_else (here b).found (here b).tries (scan offer here (b + 1) (n - (b + 1)))
  unfolding scan either
  scan_try e = whole_step ∙ ap either e ∙ ap (or_else (here b).found (here b).tries) next_is

-- bays that are not offered are passed over
pub scan_skip : (offer : ℕ → Bool) (here : ℕ → Outcome) (n d p : ℕ) → p + d ≤ n → ((c : ℕ) → p ≤ c → c < p + d → offer c ≡ false)
    → scan offer here p (n - p) ≡ scan offer here (p + d) (n - (p + d))
scan_skip offer here n zero p l h = ap (λ (x : ℕ). scan offer here x (n - x)) (let z : p ≡ p + 0 = omega arith in z)
scan_skip offer here n (suc d) p l h =
    scan_pass offer here n p (omega arith) (h p (omega arith) (omega arith))
    ∙ scan_skip offer here n d (p + 1) (omega arith) (λ c lo hi. h c (omega arith) (omega arith))
    ∙ ap (λ (x : ℕ). scan offer here x (n - x)) (let z : p + 1 + d ≡ p + suc d = omega arith in z)

-- ---- how far a walk has come

-- t tries were made of t₀ and those of the whole walk, and `rest` is still to come
pub record Goes (total rest : Outcome) (t₀ t : ℕ) : Type 0 where
  pub found : total.found ≡ rest.found
  pub tries : min (t₀ + total.tries) 4294967295 ≡ min (t + rest.tries) 4294967295

-- a try that finds nothing
goes_past : (total rest here rest' : Outcome) (t₀ t t' : ℕ) → Goes total rest t₀ t → rest ≡ or_else here.found here.tries rest' → here.found ≡ None → t' ≡ min (t + here.tries) 4294967295
    → Goes total rest' t₀ t'
goes_past total rest here rest' t₀ t t' g e none is =
    let e' : rest ≡ or_else None here.tries rest' = e ∙ ap (λ (o : Option (List ℕ)). or_else o here.tries rest') none in
    record {
      found = g.found ∙ ap (λ (o : Outcome). o.found) e';
      tries = (let s : rest.tries ≡ here.tries + rest'.tries = ap (λ (o : Outcome). o.tries) e' in let h = g.tries in omega arith);
    }

-- a try that finds a placement
goes_there : (total rest here rest' : Outcome) (t₀ t t' : ℕ) → Goes total rest t₀ t → rest ≡ or_else here.found here.tries rest' → is_some here.found ≡ true → t' ≡ min (t + here.tries) 4294967295
    → (total.found ≡ here.found) × (t' ≡ min (t₀ + total.tries) 4294967295)
goes_there total rest here rest' t₀ t t' g e some is = go here.found refl
  where
    go : (o : Option (List ℕ)) → here.found ≡ o → (total.found ≡ here.found) × (t' ≡ min (t₀ + total.tries) 4294967295)
    go None x = absurd (let z : ◌≡◌ {A = Bool} false true = sym (ap is_some x) ∙ some in let y : ◌≡◌ {A = ℕ} 0 1 = cc in omega arith)
    go (Some p) x =
        let e' : rest ≡ or_else (Some p) here.tries rest' = e ∙ ap (λ (o : Option (List ℕ)). or_else o here.tries rest') x in (
          g.found ∙ ap (λ (o : Outcome). o.found) e' ∙ sym x,
          (let s : rest.tries ≡ here.tries = ap (λ (o : Outcome). o.tries) e' in let h = g.tries in omega arith),
        )

-- ---- the row of the bays still to be tried

-- `rest` holds the offered bays from `at` on, and the scan from there is still to come
pub record Pending (total : Outcome) (offer : ℕ → Bool) (here : ℕ → Outcome) (n t₀ t rest : ℕ) : Type 0 where
  pub at : ℕ
  pub within : at ≤ n
  pub bits : (c : ℕ) → bit rest c ≡ (leb at c && offer c)
  pub goes : Goes total (scan offer here at (n - at)) t₀ t

pub pending_start : (total : Outcome) (offer : ℕ → Bool) (here : ℕ → Outcome) (n t rest : ℕ) → total ≡ scan offer here 0 n → ((c : ℕ) → bit rest c ≡ offer c) → Pending total offer here n t t rest
pending_start total offer here n t rest e bits = record {
  at = 0;
  within = omega arith;
  bits = λ c. bits c ∙ sym (ap (λ (x : Bool). x && offer c) (le-leb 0 c (omega arith)));
  goes = subst (λ (o : Outcome). Goes total o t t) (e ∙ ap (scan offer here 0) (let z : n ≡ n - 0 = omega arith in z)) (record { found = refl; tries = refl });
}

module _ (total : Outcome) (offer : ℕ → Bool) (here : ℕ → Outcome) (n t₀ t rest : ℕ) (under : (c : ℕ) → offer c ≡ true → c < n)
    (pending : Pending total offer here n t₀ t rest) where
  -- b is the lowest bay of them, and the others are in rest'
  module _ (b rest' : ℕ) (turn : Turn rest b rest') where
    both : (leb pending.at b ≡ true) × (offer b ≡ true)
    both = and_parts (leb pending.at b) (offer b) (sym (pending.bits b) ∙ turn.held)

    pub lowest_offered : offer b ≡ true
    lowest_offered = both.1

    lowest_under : b < n
    lowest_under = under b lowest_offered

    skipped : scan offer here pending.at (n - pending.at) ≡ scan offer here b (n - b)
    skipped =
        let low : pending.at ≤ b = leb-true pending.at b both.0 in
        let u = lowest_under in
        scan_skip offer here n (b - pending.at) pending.at (omega arith)
        (λ c lo hi. elim (cases_Bool (offer c)) [
          | inr f ↦ f
          | inl o ↦ absurd (both_ways _ (turn.none_before c (omega arith)) (pending.bits c ∙ ap (λ (x : Bool). x && offer c) (le-leb pending.at c lo) ∙ o))
        ])
        ∙ ap (λ (x : ℕ). scan offer here x (n - x)) (let z : pending.at + (b - pending.at) ≡ b = omega arith in z)

    ahead : scan offer here pending.at (n - pending.at) ≡ or_else (here b).found (here b).tries (scan offer here (b + 1) (n - (b + 1)))
    ahead = skipped ∙ scan_try offer here n b lowest_under lowest_offered

    bits_after : (c : ℕ) → bit rest' c ≡ (leb (b + 1) c && offer c)
    bits_after c =
        turn.but c
        ∙ elim (cases_lt b c) [
          | inl l ↦ ap (λ (x : Bool). bit rest c && not x) (ne_eqb c b (λ z. omega arith)) ∙ and-true (bit rest c) ∙ pending.bits c
              ∙ ap (λ (x : Bool). x && offer c) (le-leb pending.at c (let k = leb-true pending.at b both.0 in omega arith) ∙ sym (le-leb (b + 1) c (omega arith)))
          | inr l ↦ off c l ∙ sym (ap (λ (x : Bool). x && offer c) (lt-leb (b + 1) c (omega arith)))
        ]
      where
        off : (c : ℕ) → c ≤ b → (bit rest c && not (eqb c b)) ≡ false
        off c l = elim (cases_eq c b) [
          | inl z ↦ and_right (bit rest c) (not (eqb c b)) (ap not (eq-eqb c b z))
          | inr ne ↦ ap (λ (x : Bool). x && not (eqb c b)) (turn.none_before c (omega arith))
        ]

    -- the lowest bay's try finds nothing
    pub pending_past : (t' : ℕ) → (here b).found ≡ None → t' ≡ min (t + (here b).tries) 4294967295 → Pending total offer here n t₀ t' rest'
    pending_past t' none is = record {
      at = b + 1;
      within = (let u = lowest_under in omega arith);
      bits = bits_after;
      goes = goes_past total (scan offer here pending.at (n - pending.at)) (here b) (scan offer here (b + 1) (n - (b + 1))) t₀ t t' pending.goes ahead none is;
    }

    -- it finds a placement
    pub pending_there : (t' : ℕ) → is_some (here b).found ≡ true → t' ≡ min (t + (here b).tries) 4294967295 → (total.found ≡ (here b).found) × (t' ≡ min (t₀ + total.tries) 4294967295)
    pending_there t' found is = goes_there total (scan offer here pending.at (n - pending.at)) (here b) (scan offer here (b + 1) (n - (b + 1))) t₀ t t' pending.goes ahead found is

  -- no bay is left
  pub pending_end : rest ≡ 0 → t < 4294967296 → (total.found ≡ None) × (t ≡ min (t₀ + total.tries) 4294967295)
  unfolding scan
  pending_end z small =
      let e : scan offer here pending.at (n - pending.at) ≡ nothing 0 =
      scan_skip offer here n (n - pending.at) pending.at (let k = pending.within in omega arith)
      (λ c lo hi. elim (cases_Bool (offer c)) [
        | inr f ↦ f
        | inl o ↦ absurd (both_ways _ (ap (λ (x : ℕ). bit x c) z ∙ bit_none c) (pending.bits c ∙ ap (λ (x : Bool). x && offer c) (le-leb pending.at c lo) ∙ o))
      ])
      ∙ ap (scan offer here (pending.at + (n - pending.at))) (let y : n - (pending.at + (n - pending.at)) ≡ 0 = omega arith in y) in (
        pending.goes.found ∙ ap (λ (o : Outcome). o.found) e,
        (let s : (scan offer here pending.at (n - pending.at)).tries ≡ 0 = ap (λ (o : Outcome). o.tries) e in let h = pending.goes.tries in omega arith),
      )

-- ---- a unit's walk

pub settle_none : (w : Setting) (last : List ℕ) (tied : Bool) (u m : ℕ) (rows : List ℕ) → m ≤ u → settle w last (m - u) tied u rows ≡ record { found = Some (chosen rows); tries = 0 }
unfolding settle
settle_none w last tied u m rows l = ap (λ (k : ℕ). settle w last k tied u rows) (let z : m - u ≡ 0 = omega arith in z)

-- what comes of trying the bay b
abbrev pub trying : Setting → List ℕ → ℕ → Bool → ℕ → List ℕ → ℕ → Outcome
trying w last later tied u rows b = tried (settle w last later (tied && eqb b (get_or last u 0)) (u + 1)) (after_try w u b rows)

pub settle_some : (w : Setting) (last : List ℕ) (tied : Bool) (u m : ℕ) (rows : List ℕ) → u < m
    → settle w last (m - u) tied u rows ≡ scan (offered (get_or rows u 0) tied (get_or last u 0) (eqb (u + 1) m)) (trying w last (m - (u + 1)) tied u rows) 0 w.room.count
unfolding settle
settle_some w last tied u m rows l =
    ap (λ (k : ℕ). settle w last k tied u rows) (let z : m - u ≡ suc (m - (u + 1)) = omega arith in z)
    ∙ ap (λ (t : Bool). scan (offered (get_or rows u 0) tied (get_or last u 0) t) (λ b. tried (settle w last (m - (u + 1)) (tied && eqb b (get_or last u 0)) (suc u)) (after_try w u b rows)) 0 w.room.count)
    (let z : eqb (m - (u + 1)) 0 ≡ eqb (u + 1) m = grind (arith, nat_tests) in z)
    ∙ ap (λ (v : ℕ). scan (offered (get_or rows u 0) tied (get_or last u 0) (eqb (u + 1) m)) (λ b. tried (settle w last (m - (u + 1)) (tied && eqb b (get_or last u 0)) v) (after_try w u b rows)) 0 w.room.count)
    (let z : suc u ≡ u + 1 = omega arith in z)

pub tried_is : (deeper : List ℕ → Outcome) (next : List ℕ) (t : Bool) → any_empty next ≡ t → tried deeper next ≡ (elim t as (λ _. Outcome) [ true ↦ nothing 1 | false ↦ counted (deeper next) ])
tried_is deeper next t e = ap (λ (x : Bool). elim x as (λ _. Outcome) [ true ↦ nothing 1 | false ↦ counted (deeper next) ]) e

-- ---- one bay of one unit

module _ (w : Setting) (last : List ℕ) (tied : Bool) (u b : ℕ) (rows part : List ℕ) (left : part ≡ after_try w u b rows) where
  abbrev Here : Outcome
  Here = trying w last (length rows - (u + 1)) tied u rows b

  abbrev Deeper : Outcome
  Deeper = settle w last (length part - (u + 1)) (tied && eqb b (get_or last u 0)) (u + 1) part

  pub as_long : Lawful w.filter → length rows ≡ length part
  as_long lawful =
      sym (ap length left ∙ lawful.as_many w.arrangement w.room w.strict (narrowed w.arrangement w.room w.strict u b rows) ∙ narrow_long w.arrangement w.room w.strict u b rows)

  -- a row is empty
  pub try_fails : any_empty part ≡ true → (t t' : ℕ) → t' ≡ min (t + 1) 4294967295
      → ((trying w last (length rows - (u + 1)) tied u rows b).found ≡ None) × (t' ≡ min (t + (trying w last (length rows - (u + 1)) tied u rows b).tries) 4294967295)
  try_fails empty t t' is =
      let e : Here ≡ nothing 1 = tried_is (settle w last (length rows - (u + 1)) (tied && eqb b (get_or last u 0)) (u + 1)) (after_try w u b rows) true (ap any_empty (sym left) ∙ empty) in
      (ap (λ (o : Outcome). o.found) e, is ∙ ap (λ (k : ℕ). min (t + k) 4294967295) (sym (ap (λ (o : Outcome). o.tries) e)))

  -- the walk goes on
  pub try_goes : Lawful w.filter → any_empty part ≡ false → (t t' d : ℕ) → t' ≡ min (t + 1) 4294967295
      → d ≡ min (t' + (settle w last (length part - (u + 1)) (tied && eqb b (get_or last u 0)) (u + 1) part).tries) 4294967295
      → ((trying w last (length rows - (u + 1)) tied u rows b).found ≡ (settle w last (length part - (u + 1)) (tied && eqb b (get_or last u 0)) (u + 1) part).found)
      × (d ≡ min (t + (trying w last (length rows - (u + 1)) tied u rows b).tries) 4294967295)
  try_goes lawful full t t' d is dis =
      let e : Here ≡ counted Deeper =
      tried_is (settle w last (length rows - (u + 1)) (tied && eqb b (get_or last u 0)) (u + 1)) (after_try w u b rows) false (ap any_empty (sym left) ∙ full)
      ∙ ap (λ (p : List ℕ). counted (settle w last (length rows - (u + 1)) (tied && eqb b (get_or last u 0)) (u + 1) p)) (sym left)
      ∙ ap (λ (k : ℕ). counted (settle w last (k - (u + 1)) (tied && eqb b (get_or last u 0)) (u + 1) part)) (as_long lawful) in
      (ap (λ (o : Outcome). o.found) e, (let h : Here.tries ≡ 1 + Deeper.tries = ap (λ (o : Outcome). o.tries) e in omega arith))

-- ---- what the code holds of it

-- a write to the front of the array leaves its length
pub front_long : (xs ys : List ℕ) (k : ℕ) → k ≡ length ys → k ≤ length xs → length (ys ++ post_of 0 (k - 0) xs) ≡ length xs
front_long xs ys k e l = same_len_mid 0 (k - 0) xs ys (sym e ∙ (let z : k ≡ k - 0 = omega arith in z) ∙ sym (length-take-le (k - 0) xs (omega arith)))
