use Rattle.std.proofs.Common.{ap, length, arith, rules}
use Rattle.graphs.proofs.Lowest.{nodes_none, nodes_first}
use Rattle.graphs.proofs.RowNodesIterator.next.Goals as goal

pub returns-then-self-eq0-clause-steps : goal.returns-then-self-eq0-clause-steps
returns-then-self-eq0-clause-steps c = rw c.if-self-eq0.true (nodes_none, nodes_none)

pub returns-clause-steps : goal.returns-clause-steps
returns-clause-steps c = nodes_first c.args.self.now.rest (omega arith) (omega arith)

pub returns-clause-goes : goal.returns-clause-goes
returns-clause-goes c =
    let shorter = ap length (nodes_first c.args.self.now.rest (omega arith) (omega arith)) in
    record { on = λ f. (search rules, search rules, omega (arith, shorter)); keeps = search rules; rests = search rules }
