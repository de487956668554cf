use Rattle.std.proofs.Common.{◌^◌, ◌<◌, ◌≤◌, sym, mod-eq_of_lt, arith, pow_mono}
use Rattle.tables.proofs.rows.cut.Goals as goal

pub returns-else-columns-lt64 : goal.returns-else-columns-lt64
returns-else-columns-lt64 c =
    let p : 2 ^ 64 ≤ 2 ^ c.args.columns = pow_mono c.if-columns-lt64.false in
    let l : c.args.row < 2 ^ c.args.columns = omega arith in
    sym (mod-eq_of_lt l)
