use Rattle.std.proofs.Common.{replicate, refl, arith}
use Rattle.search.proofs.LowestBays.{bays_more, bays_all}
use Rattle.search.proofs.lowest_bays.Goals as goal

pub loop-u-init : goal.loop-u-init
loop-u-init c = refl

pub loop-u-preserved : goal.loop-u-preserved
loop-u-preserved c = bays_more c.args.rows.now c.loop-u.bays (replicate 24 0) c.loop-u.u c.loop-u-test.true c.requires c.loop-u.invariant

pub returns : goal.returns
returns c = bays_all c.args.rows.now c.loop-u.bays c.loop-u.u (omega arith) c.loop-u.invariant
