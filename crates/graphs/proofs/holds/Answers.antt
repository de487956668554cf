use Rattle.std.proofs.Common.{sym, ◌∙◌, arith, rules}
use Rattle.std.proofs.lemmas.Bool.{le-ltb}
use Rattle.graphs.specs.Rows.{bit}
use Rattle.graphs.proofs.Bits.{bit_past}
use Rattle.graphs.proofs.holds.Goals as goal

pub returns-else-b-lt64 : goal.returns-else-b-lt64
returns-else-b-lt64 c = le-ltb c.args.b 64 (omega arith) ∙ sym (bit_past c.args.row c.args.b 64 (omega arith) (omega arith))

pub returns-then-b-lt64 : goal.returns-then-b-lt64
unfolding bit
returns-then-b-lt64 c = search rules
