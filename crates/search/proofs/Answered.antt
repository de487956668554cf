-- From the walk to what is answered. Assumes nothing.
use Rattle.std.proofs.Common.{◌≡◌, ℕ, ◌+◌, ◌-◌, ◌<◌, ◌≤◌, Bool, true, false, List, [], length, replicate, Some, None, Ok, Err, Option, Result, MatchResult, is_some, unwrap_or, sym, refl, ap, ◌∙◌, subst, arith}
use Rattle.std.proofs.lemmas.List.{take_at}
use Rattle.std.proofs.lemmas.Bool.{lt-ltb, le-ltb, cond-true, cond-false}
use Rattle.placements.specs.Order.{IsFirst, Answers}
use Rattle.filters.specs.Filter.{Lawful, empty_count}
use Rattle.search.specs.declared.Find.{Find}
use Rattle.search.specs.declared.SearchError.{SearchError}
use Rattle.search.specs.declared.SearchError.TheVariants.{IllShaped, NoPlacement}
use Rattle.search.specs.Walk.{Setting, filtered, Outcome, any_empty, nothing, settle_after, walk_from, walk}
use Rattle.search.specs.Found.{found_with, answer_with, answer_of, Searched}
use Rattle.search.proofs.Going.{Settles}

-- ---- the whole walk, from its start

by_option : (w : Setting) (last : Option (List ℕ)) (rows : List ℕ) → walk_from w (unwrap_or last []) (is_some last) rows ≡ walk w last rows
by_option w (Some l) rows = refl
by_option w None rows = refl

module _ (w : Setting) (last : Option (List ℕ)) (rows part : List ℕ) (left : part ≡ filtered w rows) (empty : ℕ) (count : empty ≡ empty_count part) where
  abbrev From : ℕ → List ℕ → Outcome
  From later p = settle_after w last later 0 p

  either : Bool → Outcome
  either t = elim t as (λ _. Outcome) [ true ↦ nothing 0 | false ↦ From w.arrangement.count (filtered w rows) ]

  starts : (t : Bool) → any_empty part ≡ t → walk w last rows ≡ either t
  unfolding walk_from either
  starts t e = sym (by_option w last rows) ∙ ap either (ap any_empty (sym left) ∙ e)

  -- a row is empty at the start
  pub answers_empty : 0 < empty → ◌≡◌ {A = Result Find SearchError} (Err (NoPlacement 0)) (answer_with (walk w last rows).found (walk w last rows).tries)
  unfolding either
  answers_empty l = sym (ap (λ (o : Outcome). answer_with o.found o.tries) (starts true (lt-ltb 0 (empty_count part) (omega arith))))

  -- the walk was taken, and came to r
  pub answers_settled : Lawful w.filter → length rows ≡ w.arrangement.count → empty ≤ 0 → (r : Result Find ℕ) → Settles (settle_after w last (length part - 0) 0 part) 0 r
      → (answer : Result Find SearchError) → MatchResult r (λ f. answer ≡ Ok f) (λ n. answer ≡ Err (NoPlacement n)) → answer ≡ answer_with (walk w last rows).found (walk w last rows).tries
  unfolding either
  answers_settled lawful long full r settled answer is =
      let many : length part - 0 ≡ w.arrangement.count = omega (arith, ap length left ∙ lawful.as_many w.arrangement w.room w.strict rows, long) in
      let whole : From (length part - 0) part ≡ walk w last rows =
      ap (λ (k : ℕ). From k part) many ∙ ap (From w.arrangement.count) left ∙ sym (starts false (le-ltb 0 (empty_count part) (omega arith))) in
      go (From (length part - 0) part).found (0 + (From (length part - 0) part).tries) (subst (λ (x : Result Find ℕ). MatchResult x (λ f. answer ≡ Ok f) (λ n. answer ≡ Err (NoPlacement n))) settled is)
      ∙ ap (answer_with (From (length part - 0) part).found) (let z : 0 + (From (length part - 0) part).tries ≡ (From (length part - 0) part).tries = omega arith in z)
      ∙ ap (λ (o : Outcome). answer_with o.found o.tries) whole
    where
      go : (o : Option (List ℕ)) (n : ℕ) → MatchResult (found_with o n) (λ f. answer ≡ Ok f) (λ k. answer ≡ Err (NoPlacement k)) → answer ≡ answer_with o n
      go (Some q) n h = h
      go None n h = h

-- what is answered, in the subject's words
pub searched : (P : List ℕ → Type 0) (m : ℕ) (o : Outcome) (r : Result Find SearchError) → r ≡ answer_with o.found o.tries → ((w : List ℕ) → P w → length w ≡ m) → Answers P o.found
    → Searched P m o.tries r
searched P m o r is long a = subst (Searched P m o.tries) (sym is) (go o.found a)
  where
    go : (found : Option (List ℕ)) → Answers P found → Searched P m o.tries (answer_with found o.tries)
    go (Some w) a = (subst (IsFirst P) (sym (take_at w (replicate (24 - length w) 0) m (long w a.holds))) a, refl)
    go None a = (a, refl)

pub accepted : (ok : Bool) (o : Outcome) (r : Result Find SearchError) → ok ≡ true → r ≡ answer_with o.found o.tries → r ≡ answer_of ok o
accepted ok o r t e = e ∙ sym (cond-true ok (answer_with o.found o.tries) (Err IllShaped) t)

pub declined : (ok : Bool) (o : Outcome) → ok ≡ false → ◌≡◌ {A = Result Find SearchError} (Err IllShaped) (answer_of ok o)
declined ok o f = sym (cond-false ok (answer_with o.found o.tries) (Err IllShaped) f)
