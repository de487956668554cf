-- The whole search answers the first placement within its rows. Assumes nothing.
use Rattle.std.proofs.Common.{◌≡◌, ℕ, Bool, true, false, List, [], length, get_or, Some, None, refl, ap, ◌∙◌, arith}
use Rattle.std.proofs.lemmas.Bool.{both_ways, false≢true, ltb-true}
use Rattle.graphs.specs.Rows.{bit}
use Rattle.graphs.specs.Graph.{Sound}
use Rattle.graphs.proofs.Bits.{bit_none}
use Rattle.placements.specs.Order.{Answers}
use Rattle.filters.specs.Filter.{Lawful, shaped, empty_count}
use Rattle.filters.specs.Shapes.{Shape, shape_of}
use Rattle.search.specs.Walk.{Setting, filtered, Outcome, any_empty, nothing, settle, walk_from, walk}
use Rattle.search.specs.Found.{Sought, SoughtAfter, FindsFirst, FindsNext}
use Rattle.search.proofs.Scan.{answers_iff}
use Rattle.search.proofs.Placing.{Wanted, kept, one_empty, Stands, settle_first}

module _ (w : Setting) (last : List ℕ) (tied : Bool) (rows : List ℕ) (lawful : Lawful w.filter) (ga : Sound w.arrangement) (gr : Sound w.room) (sh : Shape w.arrangement w.room rows) where
  back : (i c : ℕ) → bit (get_or (filtered w rows) i 0) c ≡ true → bit (get_or rows i 0) c ≡ true
  back i c h = lawful.adds_none w.arrangement w.room w.strict rows i c h

  long : length (filtered w rows) ≡ w.arrangement.count
  long = lawful.as_many w.arrangement w.room w.strict rows ∙ sh.many

  pub stands : any_empty (filtered w rows) ≡ false → Stands w last tied 0 (filtered w rows)
  stands full = record {
    long = long;
    low = λ i c h. sh.under i c (back i c h);
    full = full;
    settled = λ i j c d l. absurd (omega arith);
    single = λ i c d l. absurd (omega arith);
    level = λ t i c l. absurd (omega arith);
    apart = λ t. ga.some;
  }

  there : (q : List ℕ) → Wanted w last tied rows q → Wanted w last tied (filtered w rows) q
  there q h = record { placed = h.placed; within = kept w lawful ga gr rows q h.placed h.within; after = h.after }

  either : (o : Outcome) → (any_empty (filtered w rows) ≡ false → Answers (Wanted w last tied (filtered w rows)) o.found) → (t : Bool) → any_empty (filtered w rows) ≡ t
      → Answers (Wanted w last tied rows) (elim t as (λ _. Outcome) [ true ↦ nothing 0 | false ↦ o ]).found
  either o a true z = λ q h.
      let s = one_empty (filtered w rows) (ltb-true 0 (empty_count (filtered w rows)) z) in
      let f = (there q h).within s.0 (omega (arith, s.1, long)) in
      both_ways _ (ap (λ (r : ℕ). bit r (get_or q s.0 0)) s.2 ∙ bit_none (get_or q s.0 0)) f
  either o a false z =
      answers_iff (Wanted w last tied (filtered w rows)) (Wanted w last tied rows) o.found
      (λ q h. record { placed = h.placed; within = λ i l. back i (get_or q i 0) (h.within i l); after = h.after })
      there (a z)

  settles : Answers (Wanted w last tied rows) (elim (any_empty (filtered w rows)) as (λ _. Outcome) [ true ↦ nothing 0 | false ↦ settle w last w.arrangement.count tied 0 (filtered w rows) ]).found
  settles =
      either (settle w last w.arrangement.count tied 0 (filtered w rows))
      (λ z. settle_first w last lawful ga gr w.arrangement.count tied 0 (filtered w rows) (omega arith) (stands z))
      (any_empty (filtered w rows)) refl

pub whole : (w : Setting) (last : List ℕ) (tied : Bool) (rows : List ℕ) → Lawful w.filter → Sound w.arrangement → Sound w.room → shaped w.arrangement w.room rows ≡ true
    → Answers (Wanted w last tied rows) (walk_from w last tied rows).found
unfolding walk_from
whole w last tied rows lawful ga gr sh = settles w last tied rows lawful ga gr (shape_of w.arrangement w.room rows sh)

pub finds_first : FindsFirst
finds_first w rows lawful ga gr sh =
    answers_iff (Wanted w [] false rows) (Sought w.arrangement w.room w.strict rows) (walk w None rows).found
    (λ q h. (h.placed, λ u l. h.within u (let e = h.placed.whole in omega arith)))
    (λ q h. record { placed = h.0; within = λ u l. h.1 u (let e = h.0.whole in omega arith); after = λ t. absurd (false≢true t) })
    (whole w [] false rows lawful ga gr sh)

pub finds_next : FindsNext
finds_next w rows last lawful ga gr sh =
    answers_iff (Wanted w last true rows) (SoughtAfter w.arrangement w.room w.strict rows last) (walk w (Some last) rows).found
    (λ q h. (h.placed, (λ u l. h.within u (let e = h.placed.whole in omega arith)), h.after refl))
    (λ q h. record { placed = h.0; within = λ u l. h.1 u (let e = h.0.whole in omega arith); after = λ t. h.2 })
    (whole w last true rows lawful ga gr sh)
