use Rattle.std.proofs.Common.{◌∙◌, arith}
use Rattle.sources.proofs.Tables.{table_column}
use Rattle.sources.proofs.table.JointTableSource.column.Goals as goal

pub returns : goal.returns
returns c = c.row_at.ensures ∙ c.args.self.now.written c.args.b ∙ table_column c.args.self.now.rows.now c.args.b c.args.self.now.few (omega arith) c.args.self.now.mutual
