use Rattle.std.proofs.Common.{sym}
use Rattle.saved.proofs.Steps.{plan_sizes, plan_left, plan_done}
use Rattle.saved.proofs.read.read_plan.Goals as goal

pub returns-then-not-sizes_fit-clause-value : goal.returns-then-not-sizes_fit-clause-value
returns-then-not-sizes_fit-clause-value c = plan_sizes _ _ _ c.in-Some.ensures.lookup.3 c.if-form-ne-FORM.false _ _ c.in_ok-table.ensures.value (sym c.if-not-sizes_fit.ensures)

pub returns-then-next-input-clause-value : goal.returns-then-next-input-clause-value
returns-then-next-input-clause-value c = plan_left _ _ _ c.in-Some.ensures.lookup.3 c.if-form-ne-FORM.false _ _ c.in_ok-table.ensures.value (sym c.if-not-sizes_fit.ensures) c.if-next-input.true

pub returns-clause-value : goal.returns-clause-value
returns-clause-value c = plan_done _ _ _ c.in-Some.ensures.lookup.3 c.if-form-ne-FORM.false _ _ c.in_ok-table.ensures.value (sym c.if-not-sizes_fit.ensures) c.if-next-input.false
