use Rattle.std.proofs.Common.{arith}
use Rattle.std.proofs.lemmas.Result.{err_from_is_err_and}
use Rattle.sources.proofs.Tables.{table_lawful, pairs_lawful}
use Rattle.sources.proofs.table.JointTable.look_over.Goals as goal

pub returns-in_err-look_over_row : goal.returns-in_err-look_over_row
returns-in_err-look_over_row c =
    let p = err_from_is_err_and c.from_residual.result c.from_residual.ensures.1 in
    rw (p.1, p.2)
    (λ v. c.in_err-look_over_row.ensures.0 (pairs_lawful c.args.rows.now c.args.columns v c.loop-a.a (omega arith)), c.in_err-look_over_row.ensures.1)

pub returns : goal.returns
returns c = table_lawful c.args.rows.now c.args.columns (omega arith) (omega arith) (omega arith) (λ a l. c.loop-a.invariant a (omega arith))
