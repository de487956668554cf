-- Saved plans are an exact part. Assumes nothing.
use Rattle.std.proofs.Common.{◌≡◌, ℕ, zero, suc, ◌+◌, ◌*◌, true, eqb, List, [], ◌∷◌, ◌++◌, length, get_or, take, Ok, Result, sym, refl, ap, ◌∙◌, subst, append-nil, arith}
use Rattle.std.proofs.lemmas.Bool.{and_from, and_parts, eqb-true, le-leb, leb-true}
use Rattle.tables.specs.Bytes.{Bytes}
use Rattle.tables.specs.Form.{Form, Lawful}
use Rattle.tables.specs.Parts.{and_then, Anything, Nothing, Exact}
use Rattle.tables.specs.Saved.{Saved}
use Rattle.tables.specs.Written.{table_bytes, stored}
use Rattle.tables.proofs.Parts.{after_exact, and_then_ok, alone_exact, checked_exact, inside_exact, some_bytes_exact, turned_exact}
use Rattle.tables.proofs.Saving.{saved_back}
use Rattle.tables.proofs.Tables.{table_exact, table_length}
use Rattle.saved.specs.declared.fault.PlanFault.{PlanFault}
use Rattle.saved.specs.declared.fault.PlanFault.TheVariants as P
use Rattle.saved.specs.Plan.{PlanLawful, sized, form_part, struck_part, plan_bytes, plan_part, read_plan}

abbrev FormLawful : List ℕ → Type 0
FormLawful bs = ((length bs ≡ 1) × Bytes bs) × (eqb (get_or bs 0 0) 2 ≡ true)

abbrev StruckLawful : Form → Type 0
StruckLawful f = Lawful f × (sized f ≡ true)

form_exact : Exact FormLawful Anything form_part (λ bs. bs)
form_exact = checked_exact (λ bs. eqb (get_or bs 0 0) 2) P.Form (some_bytes_exact 1 P.Ended)

struck_exact : Exact StruckLawful Anything struck_part table_bytes
struck_exact = checked_exact sized P.Sizes (inside_exact P.Table table_exact)

one_byte : (bs : List ℕ) → FormLawful bs → 2 ∷ [] ≡ bs
one_byte [] l = absurd (omega (arith, l.0.0))
one_byte (b ∷ []) l = ap (λ x. x ∷ []) (sym (eqb-true b 2 l.1))
one_byte (b ∷ c ∷ bs) l = absurd (omega (arith, l.0.0))

two_is_byte : Bytes (2 ∷ [])
two_is_byte zero = omega arith
two_is_byte (suc i) = omega arith

pub sized_true : (f : Form) → PlanLawful f → sized f ≡ true
sized_true f l =
    and_from _ _ (and_from _ _ (le-leb 1 (length f.rows) l.some_units) (le-leb (length f.rows) 24 l.few_units))
    (and_from _ _ (le-leb 1 f.columns l.some_bays) (le-leb f.columns 64 l.table.few_columns))

pub plan_exact : Exact PlanLawful Nothing plan_part plan_bytes
plan_exact = turned_exact (λ p. p.1) (λ f. (2 ∷ [], f)) to from (alone_exact P.Left (after_exact form_exact (λ _ _. struck_exact)))
  where
    to : (p : List ℕ × Form) → FormLawful p.0 × StruckLawful p.1 → ((2 ∷ [], p.1) ≡ p) × PlanLawful p.1
    to p l =
        let all = and_parts _ _ l.1.1 in
        let units = and_parts _ _ all.0 in
        let bays = and_parts _ _ all.1 in (
          ap (λ (bs : List ℕ). (bs, p.1)) (one_byte p.0 l.0),
          record {
            table = l.1.0;
            some_units = leb-true 1 (length p.1.rows) units.0;
            few_units = leb-true (length p.1.rows) 24 units.1;
            some_bays = leb-true 1 p.1.columns bays.0;
          },
        )

    from : (f : Form) → PlanLawful f → (f ≡ f) × (FormLawful (2 ∷ []) × StruckLawful f)
    from f l = (refl, (((refl, two_is_byte), refl), (l.table, sized_true f l)))

pub plan_length : (f : Form) → length (plan_bytes f) ≡ 11 + 8 * stored f.rows
plan_length f = omega (arith, table_length f)

-- what was saved opens to the same plan
pub plan_saved_back : (f : Form) (out out' : List ℕ) (n : ℕ) → Saved (plan_bytes f) out out' (Ok n) → PlanLawful f → read_plan (take n out') 0 ≡ Ok f
plan_saved_back f out out' n s l = ap (λ r. and_then {Y = Form} r (λ p. Ok p.0)) (saved_back plan_bytes plan_exact refl f l out out' (Ok n) s)

-- bytes open to a plan exactly if they are its saved form
pub plan_opens : (bs : List ℕ) (f : Form) → PlanLawful f → bs ≡ plan_bytes f → read_plan bs 0 ≡ Ok f
plan_opens bs f l e =
    ap (λ r. and_then {Y = Form} r (λ p. Ok p.0)) (plan_exact.back f l bs 0 [] refl (e ∙ sym (append-nil (plan_bytes f))))

pub plan_opened : (bs : List ℕ) (f : Form) → Bytes bs → read_plan bs 0 ≡ Ok f → PlanLawful f × (bs ≡ plan_bytes f)
plan_opened bs f B h =
    let a = and_then_ok (plan_part bs 0) _ f h in
    let same : a.0.0 ≡ f = same_ok a.2 in
    let g = plan_exact.only bs 0 B a.0.0 a.0.1 a.1 in (
      subst PlanLawful same g.lawful,
      g.form ∙ ap (λ t. plan_bytes a.0.0 ++ t) g.follows ∙ append-nil (plan_bytes a.0.0) ∙ ap plan_bytes same,
    )
  where
    same_ok : {x y : Form} → ◌≡◌ {A = Result Form PlanFault} (Ok x) (Ok y) → x ≡ y
    same_ok e = cc
