-- Fits by a rule book. Assumes nothing.
use Rattle.std.proofs.Common.{◌≡◌, ℕ, ◌≤◌, Bool, true, false, ◌&&◌, ltb, List, [], length, Some, sym, refl, ap, ◌∙◌, subst, ap₂, ⊎_elim, arith}
use mathlib.Core.Path.{fun_ext}
use Rattle.std.proofs.lemmas.Bool.{cases_lt, lt-ltb, le-ltb}
use Rattle.refusals.specs.declared.Reason.TheVariants as R
use Rattle.graphs.specs.Rows.{Pairs, pairs}
use Rattle.graphs.proofs.PairSets.{low_by, blank_by, none_past, none_beyond}
use Rattle.tables.specs.Shape.{Inside, Blank}
use Rattle.books.specs.Fit.{handed}
use Rattle.books.proofs.Fitting.{handed_past_units, handed_past_bays, suited_all}
use Rattle.ledgers.specs.Calls.{fit, fit_further, done}
use Rattle.ledgers.specs.Ledger.{no_fit, fits, narrowed_by, Verdict, accepted, unless, other_cards}
use Rattle.plans.specs.Bounds.{numbers_in}
use Rattle.plans.specs.Step.{fitting, shortened, view, Step, turn}
use Rattle.plans.specs.declared.plan.Plan.{Plan}
use Rattle.plans.proofs.Steps.{done_step, of}

both_below : (m n u b : ℕ) (t : Bool) → (m ≤ u → t ≡ false) → (n ≤ b → t ≡ false) → t ≡ ((ltb u m && ltb b n) && t)
both_below m n u b t hu hb =
    ⊎_elim
    (λ lu.
    ⊎_elim (λ lb. sym (ap₂ (λ x y. (x && y) && t) (lt-ltb u m lu) (lt-ltb b n lb)))
    (λ gb. hb gb ∙ sym (ap₂ (λ x y. (x && ltb b n) && y) (lt-ltb u m lu) (hb gb) ∙ last (ltb b n))) (cases_lt b n))
    (λ gu. hu gu ∙ sym (ap (λ x. (x && ltb b n) && t) (le-ltb u m gu))) (cases_lt u m)
  where
    last : (s : Bool) → (s && false) ≡ false
    last true = refl
    last false = refl

-- where there is a fit, its rows are inside the plan
pub fitted_inside : (p : Plan) (fitted : List ℕ) → p.fitted ≡ Some fitted → Inside p.bays fitted
fitted_inside p fitted was = subst (λ o. Inside p.bays (numbers_in o)) was p.fitted_inside

pub fitted_blank : (p : Plan) (fitted : List ℕ) → p.fitted ≡ Some fitted → Blank p.units fitted
fitted_blank p fitted was = subst (λ o. Blank p.units (numbers_in o)) was p.fitted_blank

module _ {U B : Type 0} (f : U → B → Bool) (us : List U) (bs : List B) where
  -- one card a unit and one a bay: no pair that suits is cut off
  pub suited_here :
      (p : Plan) (rows : List ℕ) → length us ≡ p.units → length bs ≡ p.bays
      → ((u b : ℕ) → pairs rows u b ≡ (ltb u 24 && (ltb b 64 && (handed f us bs).suits u b)))
      → (u b : ℕ) → pairs rows u b ≡ (handed f us bs).suits u b
  suited_here p rows lu lb is = suited_all f us bs rows is (let h = p.few_units in omega arith) (let h = p.few_bays in omega arith)

  pub fit_step :
      (p q : Plan) (rows : List ℕ) → ((v : Verdict) → unless R.CardCount (other_cards (view p) (handed f us bs)) v ≡ v) → length us ≡ p.units → length bs ≡ p.bays
      → ((u b : ℕ) → pairs rows u b ≡ (handed f us bs).suits u b)
      → q.units ≡ p.units → q.bays ≡ p.bays → q.struck ≡ p.struck → q.fitted ≡ Some rows → q.last ≡ p.last → Step p (turn (fit (handed f us bs)) done []) q
  fit_step p q rows passes lu lb is eu eb es ef el =
      let d = handed f us bs in
      let table : pairs rows ≡ (λ v c. (ltb v p.units && ltb c p.bays) && d.suits v c) =
      fun_ext (λ v. fun_ext (λ c.
      is v c
      ∙ both_below p.units p.bays v c (d.suits v c) (λ le. handed_past_units f us bs v c (omega arith))
      (λ le. handed_past_bays f us bs v c (omega arith)))) in
      done_step p q (fit d) (passes accepted)
      (λ i. of (eu i) (eb i) (pairs (es i)) ((ap fitting ef ∙ ap fits table) i) (shortened (eu i) (el i)))
      (refl, refl)

  pub fit_inside : (n : ℕ) (rows : List ℕ) → length bs ≡ n → ((u b : ℕ) → pairs rows u b ≡ (handed f us bs).suits u b) → Inside n rows
  fit_inside n rows lb is = low_by n rows (λ u b le. is u b ∙ handed_past_bays f us bs u b (omega arith))

  pub fit_blank : (m : ℕ) (rows : List ℕ) → length us ≡ m → ((u b : ℕ) → pairs rows u b ≡ (handed f us bs).suits u b) → Blank m rows
  fit_blank m rows lu is = blank_by m rows (λ u b le. is u b ∙ handed_past_units f us bs u b (omega arith))

  pub fit_further_step :
      (p q : Plan) (fitted rows : List ℕ) → ((v : Verdict) → unless R.CardCount (other_cards (view p) (handed f us bs)) v ≡ v) → p.fitted ≡ Some fitted
      → ((u b : ℕ) → pairs rows u b ≡ (pairs fitted u b && (handed f us bs).suits u b))
      → q.units ≡ p.units → q.bays ≡ p.bays → q.struck ≡ p.struck → q.fitted ≡ Some rows → q.last ≡ p.last → Step p (turn (fit_further (handed f us bs)) done []) q
  fit_further_step p q fitted rows passes was is eu eb es ef el =
      let d = handed f us bs in
      let table : fitting q.fitted ≡ narrowed_by (fitting p.fitted) d.suits =
      ap fitting ef ∙ ap fits (fun_ext (λ v. fun_ext (λ c. is v c))) ∙ sym (ap (λ t. narrowed_by (fitting t) d.suits) was) in
      done_step p q (fit_further d) (passes _ ∙ ap (λ t. unless R.NoFit (no_fit (fitting t)) accepted) was)
      (λ i. of (eu i) (eb i) (pairs (es i)) (table i) (shortened (eu i) (el i)))
      (refl, refl)

-- what is in a table and in another set is inside where the table is
pub both_inside : (n : ℕ) (one rows : List ℕ) (r : Pairs) → Inside n one → ((u b : ℕ) → pairs rows u b ≡ (pairs one u b && r u b)) → Inside n rows
both_inside n one rows r w is = low_by n rows (λ u b le. is u b ∙ ap (λ t. t && r u b) (none_beyond n one w u b le))

pub both_blank : (m : ℕ) (one rows : List ℕ) (r : Pairs) → Blank m one → ((u b : ℕ) → pairs rows u b ≡ (pairs one u b && r u b)) → Blank m rows
both_blank m one rows r z is = blank_by m rows (λ u b le. is u b ∙ ap (λ t. t && r u b) (none_past m one z u b le))
