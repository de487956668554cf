use Rattle.std.proofs.Common.{sym, ◌∙◌, arith}
use Rattle.std.proofs.lemmas.Bool.{both_ways}
use Rattle.drawing.proofs.Joints.{no_joints}
use Rattle.drawing.proofs.graph.Graph.new.Goals as goal

pub invariant_of-result : goal.invariant_of-result
invariant_of-result k =
    record {
      few = omega arith;
      inside = λ c d e. absurd (both_ways _ (no_joints c d) e);
      irreflexive = λ c. no_joints c c;
      symmetric = λ c d. no_joints c d ∙ sym (no_joints d c);
    }
