-- Plans opened and saved. Assumes nothing.
use Rattle.std.proofs.Common.{◌≡◌, ℕ, ◌^◌, ◌<◌, ◌≤◌, true, false, ltb, List, [], length, get_or, take, Ok, Err, Result, MatchResult, IsErrAnd, sym, refl, ap, ◌∙◌, subst, ⊎_elim, arith, pow_pos}
use mathlib.Core.Path.{fun_ext}
use Rattle.std.proofs.lemmas.List.{get_or_past, length-take-le}
use Rattle.std.proofs.lemmas.Result.{MatchResult-at_ok, MatchResult-at_err, err_from_is_err_and}
use Rattle.std.proofs.lemmas.Bool.{cases_Bool, cond-true, cond-false, ltb-false}
use Rattle.refusals.specs.declared.Reason.TheVariants.{NoRoom}
use Rattle.graphs.specs.Rows.{bit, pairs}
use Rattle.graphs.proofs.PairSets.{take_rows}
use Rattle.text.proofs.Lay.{lay_front}
use Rattle.tables.specs.declared.fault.SaveFault.{SaveFault}
use Rattle.tables.specs.declared.fault.SaveFault.TheVariants.{Short}
use Rattle.tables.specs.declared.table.Table.{Table}
use Rattle.tables.specs.Shape.{Inside, Blank}
use Rattle.tables.specs.Form.{Form, view as form_in, form_of as cut_form}
use Rattle.tables.specs.Saved.{Saved}
use Rattle.tables.proofs.Tables.{form_kept}
use Rattle.saved.specs.Plan.{PlanLawful, plan_bytes, read_plan}
use Rattle.ledgers.specs.Calls.{«open», save, rule, done, number}
use Rattle.ledgers.specs.Ledger.{readable, opened, form_of}
use Rattle.ledgers.specs.Answered.{over}
use Rattle.plans.specs.declared.refusal.Refusal.{Refusal}
use Rattle.plans.specs.declared.refusal.Refusal.TheVariants as P
use Rattle.plans.specs.Refused.{saving}
use Rattle.plans.specs.Step.{fitting, shortened, view, Started, Step, turn}
use Rattle.plans.specs.declared.plan.Plan.{Plan}
use Rattle.plans.proofs.Steps.{declined_step, accepted_step, done_step, same_self, of, low_take}

-- ---- open

-- the same rows, with zeros behind them
abbrev Fronts : List ℕ → List ℕ → Type 0
Fronts rows front = (u : ℕ) → get_or front u 0 ≡ get_or rows u 0

pub open_inside : (f : Form) (front : List ℕ) → PlanLawful f → Fronts f.rows front → Inside f.columns front
open_inside f front l e u = let P : ℕ → Type 0 = λ x. x < 2 ^ f.columns in subst P (sym (e u)) (l.table.inside u)

pub open_blank : (f : Form) (front : List ℕ) → Fronts f.rows front → Blank (length f.rows) front
open_blank f front e u le = e u ∙ get_or_past f.rows u 0 le

pub open_step :
    (p q : Plan) (bs front : List ℕ) (f : Form) → read_plan bs 0 ≡ Ok f → Fronts f.rows front → Started (length f.rows) f.columns front q → Step p (turn («open» bs) done []) q
open_step p q bs front f e fronts s =
    let table : pairs q.struck ≡ pairs f.rows = ap pairs s.struck ∙ fun_ext (λ u. fun_ext (λ b. ap (λ x. bit x b) (fronts u))) in
    done_step p q («open» bs) (ap readable e)
    ((λ i. of (s.units i) (s.bays i) (table i) (fitting (s.fitted i)) (shortened (s.units i) (s.last i))) ∙ sym (ap (opened (view p)) e))
    (refl, refl)

-- ---- save

-- the table that is saved holds the plan's strikes
saved_table : (p : Plan) (t : Table) → p.units ≤ length p.struck → form_in t ≡ cut_form p.bays (take p.units p.struck) → plan_bytes (form_in t) ≡ form_of (view p)
saved_table p t long e =
    let part = take p.units p.struck in
    ap plan_bytes
    (e ∙ form_kept p.bays part (record { few_rows = omega (arith, p.few_units, length-take-le p.units p.struck long); few_columns = p.few_bays; inside = low_take p.units (2 ^ p.bays) p.struck (pow_pos p.bays) p.inside })
    ∙ ap (λ x. record { columns = p.bays; rows = x }) (take_rows p.units p.bays p.struck long p.inside))

pub save_step :
    (p : Plan) (t : Table) (out out' : List ℕ) (x : Result ℕ SaveFault) (r : Result ℕ Refusal) → p.units ≤ length p.struck → form_in t ≡ cut_form p.bays (take p.units p.struck)
    → Saved (plan_bytes (form_in t)) out out' x → (Post : SaveFault → Refusal → Type 0) → ((e : SaveFault) (y : Refusal) → Post e y → y ≡ P.NoRoom)
    → MatchResult x (λ k. r ≡ Ok k) (λ e. IsErrAnd r (Post e)) → Step p (turn (save out) (saving r) out') p
save_step p t out out' x r long e s Post says m =
    ⊎_elim
    (λ short.
    let err = err_from_is_err_and r (MatchResult-at_err (λ k. r ≡ Ok k) (λ e. IsErrAnd r (Post e)) Short (s.answer ∙ cond-true _ _ _ short) m) in
    let B : List ℕ → Type 0 = λ g. ltb (length out) (length g) ≡ true in
    declined_step p (save out) (rule NoRoom) (saving r) out' (cond-true _ _ _ (subst B ef short)) (ap saving (err.1 ∙ ap Err (says Short err.0 err.2))) (s.buffer ∙ cond-true _ _ _ short))
    (λ fits.
    let is = MatchResult-at_ok (λ k. r ≡ Ok k) (λ e. IsErrAnd r (Post e)) (length f) (s.answer ∙ cond-false _ _ _ fits) m in
    let put : out' ≡ over f out = s.buffer ∙ cond-false _ _ _ fits ∙ lay_front out f (ltb-false (length out) (length f) fits) in
    let B : List ℕ → Type 0 = λ g. ltb (length out) (length g) ≡ false in
    accepted_step p p (save out) (saving r) out' (cond-false _ _ _ (subst B ef fits)) refl
    (ap saving is ∙ ap (λ g. number (length g)) ef, put ∙ ap (λ g. over g out) ef) (λ _. same_self p))
    (cases_Bool (ltb (length out) (length f)))
  where
    f : List ℕ
    f = plan_bytes (form_in t)

    ef : f ≡ form_of (view p)
    ef = saved_table p t long e
