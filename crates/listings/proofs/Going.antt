-- The searches of a job's plan go through the list of all its placements. Assumes nothing.
use Rattle.std.proofs.Common.{◌≡◌, ℕ, ◌+◌, ◌<◌, ◌≤◌, Bool, true, false, not, ◌&&◌, ◌||◌, ltb, List, [], length, get_or, take, drop, is_ok, Some, None, Ok, Err, Decides, Option, Result, sym, refl, ap, ◌∙◌, subst, ap₂, inl, inr, arith, length-append, length-drop}
use Rattle.std.proofs.lemmas.List.{take_at}
use Rattle.std.proofs.lemmas.Bool.{and_from, and_parts, both_ways, eq-eqb, le-ltb, lt-ltb}
use Rattle.std.proofs.lemmas.Bool.Decides.{Decides-and, Decides-like}
use Rattle.refusals.specs.declared.Reason.TheVariants as R
use Rattle.graphs.specs.Graph.{Graph}
use Rattle.graphs.specs.Rows.{pairs}
use Rattle.placements.specs.Placement.{Placement}
use Rattle.placements.specs.Order.{IsFirst, Answers, Lists}
use Rattle.placements.specs.Tests.{placement_test, within_test}
use Rattle.placements.specs.Listing.{listing}
use Rattle.placements.proofs.Deciding.{placement_decides, within_decides}
use Rattle.placements.proofs.Listings.{listing_all}
use Rattle.placements.proofs.Orders.{answers_unique}
use Rattle.search.specs.Walk.{Setting}
use Rattle.ledgers.specs.Calls.{Call, seek, further, Answer}
use Rattle.ledgers.specs.Wanted.{After, Wanted}
use Rattle.ledgers.specs.Ledger.{Ledger, accepted, verdict, unless, open_pairs, other_counts, made, with_find, find_in, by_verdict, after}
use Rattle.ledgers.specs.Answered.{over, Finds, Answered, Right}
use Rattle.ledgers.proofs.Finding.{find_wanted}
use Rattle.plans.specs.declared.plan.Plan.{Plan}
use Rattle.plans.specs.declared.refusal.Refusal.{Refusal}
use Rattle.plans.specs.Refused.{finding}
use Rattle.plans.specs.Step.{view, turn, Step}
use Rattle.jobs.specs.Head.{is_strict}
use Rattle.jobs.specs.Form.{JobForm, JobLawful}
use Rattle.listings.specs.Suited.{cards_of, allowed, arrangement_of, room_of, Suited}
use Rattle.listings.specs.Fitted.{fitted_ledger}
use Rattle.listings.proofs.Opening.{is_found, declining_neither, judged}
use Rattle.listings.proofs.Order.{none_listed, first_listed, none_later, next_listed}

-- ---- all placements of a job

abbrev suited_test : JobForm → List ℕ → Bool
suited_test j w = placement_test (arrangement_of j) (room_of j) (is_strict j.mode) w && within_test (allowed j) w

suited_decides : (j : JobForm) (w : List ℕ) → Decides (suited_test j w) (Suited j w)
suited_decides j w =
    Decides-like (suited_test j w) (λ h. record { placed = h.0; within = h.1 }) (λ h. (h.placed, h.within))
    (Decides-and (placement_test (arrangement_of j) (room_of j) (is_strict j.mode) w) (within_test (allowed j) w)
    (placement_decides (arrangement_of j) (room_of j) (is_strict j.mode) w) (within_decides (allowed j) w))

pub all : JobForm → List (List ℕ)
all j = listing (length j.arrangement.rows) (length j.room.rows) (suited_test j)

pub all_lists : (j : JobForm) → Lists (Suited j) (all j)
unfolding all
all_lists j =
    listing_all (length j.arrangement.rows) (length j.room.rows) (suited_test j) (Suited j) (λ w h. h.placed.whole) (λ w h. h.placed.on_bays) (suited_decides j)

-- ---- one search

found_ok : (r : Result ℕ Refusal) → is_ok r ≡ is_found (finding r)
found_ok (Ok t) = refl
found_ok (Err e) = sym (declining_neither e).1

-- where the search stands: its k-th find, counted from 0, is in the buffer and in the plan, or there is none
pub record At (j : JobForm) (k : ℕ) (more : Bool) (bays : List ℕ) (plan : Plan) : Type 0 where
  pub long : length bays ≡ 24
  pub listed : more ≡ true → k < length (all j)
  pub here : more ≡ true → take (length j.struck.rows) bays ≡ get_or (all j) k []
  pub last : more ≡ true → view plan ≡ fitted_ledger j (Some (get_or (all j) k []))
  pub past : more ≡ false → length (all j) ≤ k

module _ (j : JobForm) (law : JobLawful j) (s : Setting) (ea : s.arrangement ≡ arrangement_of j) (er : s.room ≡ room_of j) (es : s.strict ≡ is_strict j.mode) where
  abbrev m : ℕ
  m = length j.struck.rows

  units : s.arrangement.count ≡ m
  units = ap (λ (g : Graph). g.count) ea ∙ sym law.struck.units_same

  bays : s.room.count ≡ j.struck.columns
  bays = ap (λ (g : Graph). g.count) er ∙ sym law.struck.bays_same

  counts : (o : Option (List ℕ)) → other_counts (fitted_ledger j o) s ≡ false
  counts o = ap₂ (λ x y. not x || not y) (eq-eqb s.arrangement.count m units) (eq-eqb s.room.count j.struck.columns bays)

  -- ---- what the plan looks for is what the job asks for

  placed : (w : List ℕ) → Placement s.arrangement s.room s.strict w → Placement (arrangement_of j) (room_of j) (is_strict j.mode) w
  placed w h =
      subst (λ (b : Bool). Placement (arrangement_of j) (room_of j) b w) es
      (subst (λ (r : Graph). Placement (arrangement_of j) r s.strict w) er (subst (λ (a : Graph). Placement a s.room s.strict w) ea h))

  unplaced : (w : List ℕ) → Placement (arrangement_of j) (room_of j) (is_strict j.mode) w → Placement s.arrangement s.room s.strict w
  unplaced w h =
      subst (λ (b : Bool). Placement s.arrangement s.room b w) (sym es)
      (subst (λ (r : Graph). Placement s.arrangement r (is_strict j.mode) w) (sym er) (subst (λ (a : Graph). Placement a (room_of j) (is_strict j.mode) w) (sym ea) h))

  suited : (o : Option (List ℕ)) (w : List ℕ) → Wanted s (open_pairs (fitted_ledger j None)) o w → Suited j w
  suited o w h =
      record {
        placed = placed w h.placed;
        within = λ u l.
            let parts = and_parts ((ltb u m && ltb (get_or w u 0) j.struck.columns) && (cards_of j).suits u (get_or w u 0)) (not (pairs j.struck.rows u (get_or w u 0))) (h.within u l) in
            and_from ((cards_of j).suits u (get_or w u 0)) (not (pairs j.struck.rows u (get_or w u 0)))
            (and_parts (ltb u m && ltb (get_or w u 0) j.struck.columns) ((cards_of j).suits u (get_or w u 0)) parts.0).1 parts.1;
      }

  wanted : (o : Option (List ℕ)) (w : List ℕ) → Suited j w → After o w → Wanted s (open_pairs (fitted_ledger j None)) o w
  wanted o w h a =
      record {
        placed = unplaced w h.placed;
        within = λ u l.
            let parts = and_parts ((cards_of j).suits u (get_or w u 0)) (not (pairs j.struck.rows u (get_or w u 0))) (h.within u l) in
            let unit : u < length j.arrangement.rows = omega (arith, h.placed.whole) in
            and_from _ _
            (and_from _ _ (and_from _ _ (lt-ltb u m (omega (arith, law.struck.units_same))) (lt-ltb (get_or w u 0) j.struck.columns (omega (arith, h.placed.on_bays u unit, law.struck.bays_same)))) parts.0)
            parts.1;
        after = a;
      }

  -- ---- what a search that is not declined finds

  module _ (x o : Option (List ℕ)) (c : Call) (out out' : List ℕ) (r : Result ℕ Refusal) (p q : Plan)
      (is : view p ≡ fitted_ledger j x) (ok : verdict (fitted_ledger j x) c ≡ accepted)
      (asks : (a : Answer) (b : List ℕ) → Answered (fitted_ledger j x) c a b → Finds (fitted_ledger j x) s o out a b)
      (makes : made (fitted_ledger j x) c ≡ with_find (fitted_ledger j x) (find_in (fitted_ledger j x) s o))
      (step : Step p (turn c (finding r) out') q)
    where
      finds : Finds (fitted_ledger j x) s o out (finding r) out'
      finds = asks (finding r) out' (judged (fitted_ledger j x) c (finding r) out' ok (subst (λ (l : Ledger). Right l c (finding r) out') is step.right))

      holds : view q ≡ with_find (fitted_ledger j x) (find_in (fitted_ledger j x) s o)
      holds = step.holds ∙ ap (λ l. after l c) is ∙ ap (λ v. by_verdict v (made (fitted_ledger j x) c) (fitted_ledger j x)) ok ∙ makes

      looked : Answers (Wanted s (open_pairs (fitted_ledger j None)) o) (find_in (fitted_ledger j x) s o)
      looked = find_wanted s (open_pairs (fitted_ledger j None)) o m j.struck.columns units bays

      -- the find at k, where the first wanted stands there in the list
      module _ (k : ℕ) (room : length out ≡ 24)
          (first : (w : List ℕ) → IsFirst (Wanted s (open_pairs (fitted_ledger j None)) o) w → (k < length (all j)) × (w ≡ get_or (all j) k []))
          (nothing : ((w : List ℕ) → Wanted s (open_pairs (fitted_ledger j None)) o w → ⊥) → length (all j) ≤ k)
        where
          pub stands : At j k (is_ok r) out' q
          stands = elim finds [
            | inl h ↦ came h.0 h.1 (found_ok r ∙ ap is_found h.2) h.3
            | inr h ↦ ended h.0 (found_ok r ∙ ap is_found h.1) h.2
          ]
            where
              came : (w : List ℕ) → IsFirst (Wanted s (open_pairs (fitted_ledger j None)) o) w → is_ok r ≡ true → out' ≡ over w out → At j k (is_ok r) out' q
              came w f t b =
                  let there = first w f in
                  let whole : length w ≡ m = f.holds.placed.whole ∙ units in
                  let few : m ≤ 24 = law.struck.plan.few_units in
                  record {
                    long = omega (arith, ap length b, length-append w (drop (length w) out), length-drop (length w) out);
                    listed = λ _. there.0;
                    here = λ _. ap (take m) b ∙ take_at w (drop (length w) out) m whole ∙ there.1;
                    last = λ _. holds ∙ ap (with_find (fitted_ledger j x)) (answers_unique (Wanted s (open_pairs (fitted_ledger j None)) o) (find_in (fitted_ledger j x) s o) (Some w) looked f) ∙ ap (λ v. fitted_ledger j (Some v)) there.1;
                    past = λ e. absurd (both_ways (is_ok r) e t);
                  }

              ended : ((w : List ℕ) → Wanted s (open_pairs (fitted_ledger j None)) o w → ⊥) → is_ok r ≡ false → out' ≡ out → At j k (is_ok r) out' q
              ended no_one f b =
                  record {
                    long = ap length b ∙ room;
                    listed = λ t. absurd (both_ways (is_ok r) f t);
                    here = λ t. absurd (both_ways (is_ok r) f t);
                    last = λ t. absurd (both_ways (is_ok r) f t);
                    past = λ _. nothing no_one;
                  }

  enough : (out : List ℕ) → length out ≡ 24 → ltb (length out) m ≡ false
  enough out e = le-ltb (length out) m (omega (arith, law.struck.plan.few_units))

  module _ (out out' : List ℕ) (r : Result ℕ Refusal) (p q : Plan) (long : length out ≡ 24) where
    pub seek_at : view p ≡ fitted_ledger j None → Step p (turn (seek s out) (finding r) out') q → At j 0 (is_ok r) out' q
    seek_at is step =
        stands None None (seek s out) out out' r p q is
        (ap₂ (λ x y. unless R.OtherCount x (unless R.ShortBuffer y accepted)) (counts None) (enough out long))
        (λ a b h. h) refl step 0 long
        (λ w f. first_listed (Suited j) (all j) (all_lists j) w (record { holds = suited None w f.holds; least = λ v h. f.least v (wanted None v h tt) }))
        (λ no_one. none_listed (Suited j) (all j) (all_lists j) (λ w h. no_one w (wanted None w h tt)))

    pub further_at : (k : ℕ) → k < length (all j) → view p ≡ fitted_ledger j (Some (get_or (all j) k [])) → Step p (turn (further s out) (finding r) out') q → At j (k + 1) (is_ok r) out' q
    further_at k l is step =
        let v : List ℕ = get_or (all j) k [] in
        stands (Some v) (Some v) (further s out) out out' r p q is
        (ap₂ (λ x y. unless R.OtherCount x (unless R.ShortBuffer y accepted)) (counts (Some v)) (enough out long))
        (λ a b h. h) refl step (k + 1) long
        (λ w f. next_listed (Suited j) (all j) (all_lists j) k l w
        (record { holds = (suited (Some v) w f.holds, f.holds.after); least = λ x h. f.least x (wanted (Some v) x h.0 h.1) }))
        (λ no_one. none_later (Suited j) (all j) (all_lists j) k l (λ w h. no_one w (wanted (Some v) w h.0 h.1)))
