-- Opening and fitting a job's plan. Assumes nothing.
use Rattle.std.proofs.Common.{◌≡◌, ℕ, Bool, true, false, not, ◌||◌, List, [], map, length, None, Ok, Err, sym, refl, ap, ◌∙◌, subst, ap₂}
use Rattle.std.proofs.lemmas.List.{length-map}
use Rattle.std.proofs.lemmas.Bool.{eq-eqb, both_ways}
use Rattle.refusals.specs.declared.Reason.TheVariants as R
use Rattle.graphs.specs.Rows.{pairs}
use Rattle.saved.specs.declared.fault.PlanFault.{PlanFault}
use Rattle.saved.specs.Plan.{plan_bytes, read_plan}
use Rattle.saved.proofs.Plans.{plan_opens}
use Rattle.ledgers.specs.Calls.{Call, «open», fit, Answer, done, number, found, yes, none, refused, buffer_of}
use Rattle.ledgers.specs.Ledger.{Ledger, begun, Verdict, accepted, verdict, readable, unless, opened, made, by_verdict, after, other_cards}
use Rattle.ledgers.specs.Answered.{Judged, Answered, Right}
use Rattle.plans.specs.declared.plan.Plan.{Plan}
use Rattle.plans.specs.declared.refusal.Refusal.{Refusal}
use Rattle.plans.specs.declared.refusal.Refusal.TheVariants as P
use Rattle.plans.specs.Refused.{declining, doing, opening}
use Rattle.plans.specs.Step.{view, turn, Step}
use Rattle.jobs.specs.Form.{JobForm, JobLawful}
use Rattle.listings.specs.Suited.{kind_card, height_card, cards_of}
use Rattle.listings.specs.Fitted.{fitted_ledger}

-- ---- answers

abbrev is_done : Answer → Bool
is_done done = true
is_done (number k) = false
is_done (found t) = false
is_done (yes t) = false
is_done (none t) = false
is_done (refused e) = false

abbrev pub is_found : Answer → Bool
is_found done = false
is_found (number k) = false
is_found (found t) = true
is_found (yes t) = false
is_found (none t) = false
is_found (refused e) = false

pub declining_neither : (e : Refusal) → (is_done (declining e) ≡ false) × (is_found (declining e) ≡ false)
declining_neither P.Sizes = (refl, refl)
declining_neither P.OutOfRange = (refl, refl)
declining_neither P.Standing = (refl, refl)
declining_neither P.CardCount = (refl, refl)
declining_neither P.NoFit = (refl, refl)
declining_neither P.OtherCount = (refl, refl)
declining_neither P.NoLastAnswer = (refl, refl)
declining_neither P.ShortBuffer = (refl, refl)
declining_neither (P.NoPlacement t) = (refl, refl)
declining_neither P.NoRoom = (refl, refl)

pub fit_not_declined : (e : Refusal) → doing (Err e) ≡ done → ⊥
fit_not_declined e h = both_ways (is_done (declining e)) (declining_neither e).0 (ap is_done h)

pub open_not_declined : (e : PlanFault) → opening (Err e) ≡ done → ⊥
open_not_declined e h = let z : false ≡ true = ap is_done h in both_ways false refl z

-- ---- an accepted call

pub judged : (l : Ledger) (c : Call) (a : Answer) (b : List ℕ) → verdict l c ≡ accepted → Right l c a b → Answered l c a b
judged l c a b e h = subst (λ (v : Verdict). Judged v (λ e. (a ≡ refused e) × (b ≡ buffer_of c)) (Answered l c a b)) e h

module _ (j : JobForm) (l : JobLawful j) where
  module _ (bs : List ℕ) (e : bs ≡ plan_bytes j.struck) where
    opens : read_plan bs 0 ≡ Ok j.struck
    opens = plan_opens bs j.struck l.struck.plan e

    module _ (p q : Plan) (a : Answer) (s : Step p (turn («open» bs) a []) q) where
      pub open_done : a ≡ done
      open_done = (judged (view p) («open» bs) a [] (ap readable opens) s.right).0

      pub open_holds : view q ≡ begun (length j.struck.rows) j.struck.columns (pairs j.struck.rows)
      open_holds = s.holds ∙ ap (λ x. by_verdict (readable x) (opened (view p) x) (view p)) opens

  abbrev fresh : Ledger
  fresh = begun (length j.struck.rows) j.struck.columns (pairs j.struck.rows)

  cards_match : other_cards fresh (cards_of j) ≡ false
  cards_match =
      ap₂ (λ x y. not x || not y)
      (eq-eqb (length (map kind_card j.kinds)) (length j.struck.rows) (length-map j.kinds kind_card ∙ l.kinds.count ∙ sym l.struck.units_same))
      (eq-eqb (length (map height_card j.heights)) j.struck.columns (length-map j.heights height_card ∙ l.heights.count ∙ sym l.struck.bays_same))

  accepts : verdict fresh (fit (cards_of j)) ≡ accepted
  accepts = ap (λ t. unless R.CardCount t accepted) cards_match

  module _ (p q : Plan) (a : Answer) (is : view p ≡ fresh) (s : Step p (turn (fit (cards_of j)) a []) q) where
    pub fit_done : a ≡ done
    fit_done = (judged fresh (fit (cards_of j)) a [] accepts (subst (λ (x : Ledger). Right x (fit (cards_of j)) a []) is s.right)).0

    pub fit_holds : view q ≡ fitted_ledger j None
    fit_holds = s.holds ∙ ap (λ x. after x (fit (cards_of j))) is ∙ ap (λ v. by_verdict v (made fresh (fit (cards_of j))) fresh) accepts
