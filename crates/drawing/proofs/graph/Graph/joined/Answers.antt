use Rattle.std.proofs.Common.{ℕ, sym, ap, ◌∙◌, arith}
use Rattle.std.proofs.lemmas.Bool.{le-ltb}
use Rattle.std.proofs.lemmas.List.{get_or_past}
use Rattle.graphs.specs.Rows.{bit}
use Rattle.graphs.proofs.Bits.{bit_none}
use Rattle.drawing.proofs.graph.Graph.joined.Goals as goal

pub returns-else-a-lt64 : goal.returns-else-a-lt64
returns-else-a-lt64 c =
    le-ltb c.args.a 64 c.if-a-lt64.false
    ∙ sym (ap (λ (row : ℕ). bit row c.args.b) (get_or_past c.args.self.now.rows c.args.a 0 (omega arith)) ∙ bit_none c.args.b)
