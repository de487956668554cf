use Rattle.std.proofs.Common.{◌∙◌, arith}
use Rattle.graphs.proofs.JointTables.{table_row}
use Rattle.sources.proofs.table.JointTableSource.row.Goals as goal

pub returns : goal.returns
returns c = c.row_at.ensures ∙ c.args.self.now.written c.args.a ∙ table_row c.args.self.now.rows.now c.args.a c.args.self.now.few (omega arith) c.args.self.now.mutual
