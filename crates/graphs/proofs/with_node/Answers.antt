use Rattle.std.proofs.Common.{arith}
use Rattle.std.proofs.lemmas.Bool.Decides.{nat_tests}
use Rattle.graphs.proofs.Rows.{put_on}
use Rattle.graphs.proofs.with_node.Goals as goal

pub returns-then-b-lt64 : goal.returns-then-b-lt64
returns-then-b-lt64 c = λ k. grind (arith, nat_tests, put_on c.args.row c.args.b k c.if-b-lt64.true, c.if-wanted.true, c.if-b-lt64.true)
