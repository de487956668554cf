-- Reading a saved plan, step by step. Assumes nothing.
use Rattle.std.proofs.Common.{◌≡◌, ℕ, ◌+◌, ◌<◌, ◌≤◌, true, false, cond, eqb, ltb, List, length, get_or, take, drop, Ok, Err, Result, sym, ap, ◌∙◌, arith, length-drop}
use Rattle.std.proofs.lemmas.List.{get_or-take, get_or-drop}
use Rattle.std.proofs.lemmas.Bool.{cond-false, cond-true, eq-eqb, le-ltb, lt-ltb}
use Rattle.tables.specs.declared.fault.TableFault.{TableFault}
use Rattle.tables.specs.Form.{Form}
use Rattle.tables.specs.Parts.{and_then}
use Rattle.tables.specs.Read.{read_table}
use Rattle.saved.specs.declared.fault.PlanFault.{PlanFault}
use Rattle.saved.specs.declared.fault.PlanFault.TheVariants as P
use Rattle.saved.specs.Plan.{form_part, struck_part, read_plan, sized}

-- a result with the form byte in front
abbrev Body : Type 0
Body = (List ℕ × Form) × ℕ

-- what is answered once the table is told without the form byte
abbrev told : Result Body PlanFault → Result Form PlanFault
told r = and_then {Y = Form} (and_then {Y = Form × ℕ} r (λ p. Ok (p.0.1, p.1))) (λ p. Ok p.0)

module _ (input : List ℕ) where
  -- with nothing behind it
  abbrev ended : Result Body PlanFault → Result Form PlanFault
  ended r = told (and_then {Y = Body} r (λ p. cond (ltb p.1 (length input)) (Err (P.Left p.1)) (Ok p)))

  -- behind the bytes of the form
  abbrev behind : List ℕ → Result (Form × ℕ) PlanFault → Result Form PlanFault
  behind bs r = ended (and_then {Y = Body} r (λ q. Ok ((bs, q.0), q.1)))

  abbrev taken : Result (List ℕ × ℕ) PlanFault → Result Form PlanFault
  taken r = ended (and_then {Y = Body} r (λ p. and_then {Y = Body} (struck_part input p.1) (λ q. Ok ((p.0, q.0), q.1))))

  module _ (at : ℕ) where
    -- what was found at the place
    module _ (form : ℕ) (found : (at < length input) × ((d : ℕ) → form ≡ get_or input at d)) where
      byte_is : get_or (take 1 (drop at input)) 0 0 ≡ get_or input at 0
      byte_is = get_or-take 1 (drop at input) 0 0 (omega arith) ∙ get_or-drop at input 0 0 ∙ ap (λ n. get_or input n 0) (let e : at + 0 ≡ at = omega arith in e)

      form_is : form_part input at ≡ cond (eqb (get_or input at 0) 2) (Ok (take 1 (drop at input), at + 1)) (Err (P.Form at))
      form_is =
          ap (λ r. and_then {Y = List ℕ × ℕ} r (λ p. cond (eqb (get_or p.0 0 0) 2) (Ok p) (Err (P.Form at))))
          (cond-false (ltb (length (drop at input)) 1) _ _ (le-ltb (length (drop at input)) 1 (omega (arith, found.0, length-drop at input))))
          ∙ ap (λ b. cond (eqb b 2) (Ok (take 1 (drop at input), at + 1)) (Err (P.Form at))) byte_is

      module _ (two : form ≡ 2) where
        form_here : form_part input at ≡ Ok (take 1 (drop at input), at + 1)
        form_here = form_is ∙ cond-true (eqb (get_or input at 0) 2) _ _ (eq-eqb (get_or input at 0) 2 (sym (found.1 0) ∙ two))

        abbrev struck : Result (Form × ℕ) TableFault → Result (Form × ℕ) PlanFault
        struck r = and_then {Y = Form × ℕ} (elim r [ Ok p ↦ Ok p | Err e ↦ Err (P.Table e) ]) (λ p. cond (sized p.0) (Ok p) (Err (P.Sizes (at + 1))))

        -- a table's answer as the plan's
        here : (r : Result (Form × ℕ) TableFault) → r ≡ read_table input (at + 1) → behind (take 1 (drop at input)) (struck r) ≡ read_plan input at
        here r h = ap (λ t. behind (take 1 (drop at input)) (struck t)) h ∙ sym (ap taken form_here)

        module _ (f : Form) (next : ℕ) (h : Ok (f, next) ≡ read_table input (at + 1)) where
          pub plan_sizes : sized f ≡ false → Err (P.Sizes (at + 1)) ≡ read_plan input at
          plan_sizes s = ap (behind (take 1 (drop at input))) (sym (cond-false (sized f) _ _ s)) ∙ here (Ok (f, next)) h

          sized_here : sized f ≡ true → behind (take 1 (drop at input)) (Ok (f, next)) ≡ read_plan input at
          sized_here s = ap (behind (take 1 (drop at input))) (sym (cond-true (sized f) _ _ s)) ∙ here (Ok (f, next)) h

          pub plan_left : sized f ≡ true → next < length input → Err (P.Left next) ≡ read_plan input at
          plan_left s l = ap told (sym (cond-true (ltb next (length input)) _ _ (lt-ltb next (length input) l))) ∙ sized_here s

          pub plan_done : sized f ≡ true → length input ≤ next → Ok f ≡ read_plan input at
          plan_done s l = ap told (sym (cond-false (ltb next (length input)) _ _ (le-ltb next (length input) l))) ∙ sized_here s
