-- What a source means that is taken without being declined. Assumes nothing.
use Rattle.std.specs.Prelude.{◌≡◌}
use Rattle.graphs.specs.Graph.{Graph}
use Rattle.graphs.specs.JointTable.{lone_node}

-- what the look-over for the law P accepts means what was handed over, and what it declines means one node without joints
pub record Taken (P : Type 0) (handed meaning : Graph) : Type 0 where
  pub accepted : P → meaning ≡ handed
  pub declined : (P → ⊥) → meaning ≡ lone_node
