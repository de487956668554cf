use Rattle.jobs.specs.Form.{view}
use Rattle.listings.proofs.Opening.{open_done, open_holds, open_not_declined, fit_done, fit_holds, fit_not_declined}
use Rattle.listings.proofs.plan.fitted_plan.Goals as goal

pub unreachable-requires : goal.unreachable-requires
unreachable-requires c =
    open_not_declined c.in_default.field-0 (open_done (view c.args.lawful.now.job.now) c.args.lawful.now.lawful _ c.requires _ _ _ c.in_default.ensures.step)

pub unreachable-requires-in_default-fit_plan : goal.unreachable-requires-in_default-fit_plan
unreachable-requires-in_default-fit_plan c =
    let j = view c.args.lawful.now.job.now in
    fit_not_declined c.in_default-fit_plan.field-0
    (fit_done j c.args.lawful.now.lawful _ _ _ (open_holds j c.args.lawful.now.lawful _ c.requires _ _ _ c.in-Ok.ensures.step) c.in_default-fit_plan.ensures)

pub returns : goal.returns
returns c =
    let j = view c.args.lawful.now.job.now in
    fit_holds j c.args.lawful.now.lawful _ _ _ (open_holds j c.args.lawful.now.lawful _ c.requires _ _ _ c.in-Ok.ensures.step) c.in-Ok-fit_plan.ensures
