use Rattle.std.proofs.Common.{◌≡◌, ℕ, List, length, get_or, sym, ap, ◌∙◌, subst, arith}
use Rattle.tables.specs.Bytes.{Bytes}
use Rattle.tables.specs.Shape.{Inside, Blank}
use Rattle.tables.specs.Form.{view as form_in}
use Rattle.saved.proofs.Plans.{plan_opened}
use Rattle.plans.proofs.Opening.{open_inside, open_blank}
use Rattle.plans.proofs.plan.Plan.open.Goals as goal

pub front_rows-struck-requires : goal.front_rows-struck-requires
front_rows-struck-requires c =
    let f = form_in c.in_ok-table.table in
    let bytes : Bytes c.args.bytes.now = λ i. (c.type_inv.bytes i).fits in
    let l = (plan_opened c.args.bytes.now f bytes (sym c.in_ok-table.ensures.value)).0 in
    let e = ap length c.rows.ensures.value in
    omega (arith, e, l.few_units)

pub started-requires : goal.started-requires
started-requires c =
    let f = form_in c.in_ok-table.table in
    let bytes : Bytes c.args.bytes.now = λ i. (c.type_inv.bytes i).fits in
    let l = (plan_opened c.args.bytes.now f bytes (sym c.in_ok-table.ensures.value)).0 in
    let front = c.front_rows-struck.result in
    let eu = ap length c.rows-units.ensures.value in
    let eb = c.columns-bays.ensures in
    let es : (u : ℕ) → get_or front u 0 ≡ get_or f.rows u 0 = λ u. c.front_rows-struck.ensures u ∙ ap (λ (r : List ℕ). get_or r u 0) c.rows.ensures.value in
    record {
      some_units = omega (arith, eu, l.some_units);
      few_units = omega (arith, eu, l.few_units);
      some_bays = omega (arith, eb, l.some_bays);
      few_bays = omega (arith, eb, l.table.few_columns);
      inside = subst (λ (n : ℕ). Inside n front) (sym eb) (open_inside f front l es);
      blank = subst (λ (m : ℕ). Blank m front) (sym eu) (open_blank f front es);
    }
