use Rattle.std.proofs.Common.{arith}
use Rattle.consistency.proofs.Classes.{class_bits, chosen, left_out}
use Rattle.consistency.proofs.class_of.Goals as goal
use Rattle.consistency.proofs.class_of.Goals.{then-joined, else-joined, then-joined-2, else-joined-2}

pub returns : goal.returns
returns c u =
    class_bits c.args.others c.if-joined.first c.if-joined-2.second c.args.joined.out c.args.joined.back c.args.from c.args.to (omega arith)
    (λ v l. elim c.if-joined.branch [
      | then-joined w ↦ chosen c.args.joined.out c.if-joined.first c.args.from v w.if-joined.true w.first-is
      | else-joined w ↦ left_out c.args.joined.out c.if-joined.first c.args.from v (omega arith) l w.if-joined.false w.first-is
    ])
    (λ v l. elim c.if-joined-2.branch [
      | then-joined-2 w ↦ chosen c.args.joined.back c.if-joined-2.second c.args.to v w.if-joined-2.true w.second-is
      | else-joined-2 w ↦ left_out c.args.joined.back c.if-joined-2.second c.args.to v (omega arith) l w.if-joined-2.false w.second-is
    ])
    u
