-- What bytes open to is what is saved. Assumes nothing.
use Rattle.std.proofs.Common.{◌≡◌, ℕ, ◌≤◌, List, length, Ok, Err, Result, sym, refl, ap, ◌∙◌, subst, ap₂, arith, take_all}
use Rattle.std.proofs.lemmas.List.{get_or_past}
use Rattle.graphs.specs.Rows.{Pairs, pairs, rows_of}
use Rattle.graphs.proofs.PairSets.{rows_length, rows_low, pairs_back, take_rows, none_past, none_beyond}
use Rattle.tables.specs.Bytes.{Bytes}
use Rattle.tables.specs.Form.{Form}
use Rattle.saved.specs.declared.fault.PlanFault.{PlanFault}
use Rattle.saved.specs.Plan.{PlanLawful, read_plan, plan_bytes}
use Rattle.saved.proofs.Plans.{plan_opens, plan_opened}
use Rattle.ledgers.specs.Calls.{«open»}
use Rattle.ledgers.specs.Ledger.{Ledger, begun, saved_form, readable, opened, accepted, verdict, made}
use Rattle.ledgers.specs.Ranged.{Ranged}

abbrev form : ℕ → List ℕ → Form
form n rows = record { columns = n; rows = rows }

-- a lawful form is that of its pairs
form_ranged : (f : Form) → PlanLawful f → Ranged (length f.rows) f.columns (pairs f.rows)
form_ranged f l = record {
  some_units = l.some_units;
  few_units = l.few_units;
  some_bays = l.some_bays;
  few_bays = l.table.few_columns;
  units = none_past (length f.rows) f.rows (λ u le. get_or_past f.rows u 0 le);
  bays = none_beyond f.columns f.rows l.table.inside;
}

form_rows : (f : Form) → PlanLawful f → f.rows ≡ rows_of (length f.rows) f.columns (pairs f.rows)
form_rows f l =
    sym (take_all (length f.rows) f.rows (let z : length f.rows ≤ length f.rows = omega arith in z))
    ∙ take_rows (length f.rows) f.columns f.rows (let z : length f.rows ≤ length f.rows = omega arith in z) l.table.inside

pub opened_ranged : (bs : List ℕ) (f : Form) → Bytes bs → read_plan bs 0 ≡ Ok f
    → Ranged (length f.rows) f.columns (pairs f.rows) × (bs ≡ saved_form (length f.rows) f.columns (pairs f.rows))
opened_ranged bs f b e =
    let o = plan_opened bs f b e in
    (form_ranged f o.0, o.1 ∙ ap (λ rows. plan_bytes (form f.columns rows)) (form_rows f o.0))

pub form_opens : (m n : ℕ) (s : Pairs) → Ranged m n s → (bs : List ℕ) → bs ≡ saved_form m n s → read_plan bs 0 ≡ Ok (form n (rows_of m n s))
form_opens m n s r bs e =
    plan_opens bs (form n (rows_of m n s))
    (record {
      table = record {
        few_rows = (let l = rows_length m n s in let f = r.few_units in omega arith);
        few_columns = r.few_bays;
        inside = rows_low m n s;
      };
      some_units = (let l = rows_length m n s in let f = r.some_units in omega arith);
      few_units = (let l = rows_length m n s in let f = r.few_units in omega arith);
      some_bays = r.some_bays;
    }) e

-- what saved bytes open to
pub opens_to : (l : Ledger) (m n : ℕ) (s : Pairs) → Ranged m n s → (bs : List ℕ) → bs ≡ saved_form m n s → (verdict l («open» bs) ≡ accepted) × (made l («open» bs) ≡ begun m n s)
opens_to l m n s r bs e =
    let o = form_opens m n s r bs e in
    (ap readable o, ap (opened l) o ∙ ap₂ (λ x y. begun x n y) (rows_length m n s) (pairs_back m n s r.units r.bays))

pub opened_is_saved :
    (l : Ledger) (bs : List ℕ) (m n : ℕ) (s : Pairs) → Bytes bs
    → ((verdict l («open» bs) ≡ accepted) × (made l («open» bs) ≡ begun m n s) → Ranged m n s × (bs ≡ saved_form m n s))
    × (Ranged m n s × (bs ≡ saved_form m n s) → (verdict l («open» bs) ≡ accepted) × (made l («open» bs) ≡ begun m n s))
opened_is_saved l bs m n s b =
    (λ h. go (read_plan bs 0) refl h.0 h.1, λ h. opens_to l m n s h.0 bs h.1)
  where
    go : (r : Result Form PlanFault) → read_plan bs 0 ≡ r → readable r ≡ accepted → opened l r ≡ begun m n s → Ranged m n s × (bs ≡ saved_form m n s)
    go (Err x) e v k = let z : ◌≡◌ {A = ℕ} 0 1 = cc in absurd (omega arith)
    go (Ok f) e v k = subst (λ (y : Ledger). Ranged y.units y.bays y.struck × (bs ≡ saved_form y.units y.bays y.struck)) k (opened_ranged bs f b e)
