use Rattle.std.proofs.Common.{arith}
use Rattle.drawing.proofs.Joints.{joined_both_ways, still_inside, still_irreflexive, still_symmetric}
use Rattle.drawing.proofs.graph.Graph.join.Goals as goal

pub invariant_of-self : goal.invariant_of-self
invariant_of-self k =
    let old = k.args.self.now in
    let joined = joined_both_ways old.rows old.count k.args.a k.args.b (omega arith) old.few k.if-a-self.true k.if-b-self.true k.if-a-b.true in
    record {
      few = old.few;
      inside = still_inside old.count k.args.a k.args.b old.rows _ joined old.inside;
      irreflexive = still_irreflexive old.count k.args.a k.args.b old.rows _ joined old.irreflexive;
      symmetric = still_symmetric old.count k.args.a k.args.b old.rows _ joined old.symmetric;
    }

pub returns-then-a-b-clause-joined : goal.returns-then-a-b-clause-joined
returns-then-a-b-clause-joined k =
    joined_both_ways k.args.self.now.rows k.args.self.now.count k.args.a k.args.b (omega arith) k.args.self.now.few k.if-a-self.true k.if-b-self.true k.if-a-b.true
