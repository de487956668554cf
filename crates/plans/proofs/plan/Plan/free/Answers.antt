use Rattle.std.proofs.Common.{◌^◌, ◌<◌, length, refl, rules}
use Rattle.ledgers.specs.Ledger.{accepted}
use Rattle.plans.proofs.Striking.{free_step}
use Rattle.plans.proofs.plan.Plan.free.Goals as goal

pub returns : goal.returns
returns c =
    let p = c.args.self.now in
    let e = c.in_ok-row.ensures in
    let lt : c.args.unit < length p.struck = search rules in
    let low : c.in_ok-row.row < 2 ^ 64 = search rules in
    free_step p _ c.args.unit c.args.bay c.in_ok-row.row (e.tests accepted) e.inside.1 lt low e.row refl refl refl refl refl
