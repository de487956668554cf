use Rattle.std.proofs.Common.{arith}
use Rattle.std.proofs.lemmas.Nat.{one_shl}
use Rattle.tables.proofs.Putting.{map_none, map_zero, map_some}
use Rattle.tables.proofs.write.map_of.Goals as goal
use Rattle.tables.proofs.write.map_of.Goals.{then-row-ne0, else-row-ne0}

pub loop-k-init : goal.loop-k-init
loop-k-init c = map_none c.args.rows.now

pub loop-k-preserved : goal.loop-k-preserved
loop-k-preserved c =
    elim c.if-row-ne0.branch [
      | then-row-ne0 w ↦ simp (w.map-is, one_shl c.loop-k.k 64 (omega (arith, c.requires))) (map_some _ _ _ c.loop-k-test.true c.loop-k.invariant w.if-row-ne0.true)
      | else-row-ne0 w ↦ simp w.map-is (map_zero _ _ _ c.loop-k-test.true c.loop-k.invariant w.if-row-ne0.false)
    ]
