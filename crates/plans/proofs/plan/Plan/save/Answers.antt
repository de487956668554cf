use Rattle.std.proofs.Common.{◌≤◌, length, rules}
use Rattle.plans.proofs.Opening.{save_step}
use Rattle.plans.proofs.plan.Plan.save.Goals as goal

pub returns : goal.returns
returns c =
    let p = c.args.self.now in
    let long : p.units ≤ length p.struck = search rules in
    save_step p c.from_rows-table.result c.args.out.now c.save_plan.new.out c.save_plan.result c.map_err.result long c.from_rows-table.ensures c.save_plan.ensures.saved _ (λ e y k. search rules) c.map_err.ensures.cases
