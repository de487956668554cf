use Rattle.std.proofs.Common.{◌∙◌}
use Rattle.std.proofs.lemmas.Result.{err_from_is_err_and}
use Rattle.tables.proofs.Steps.{table_ended, table_rows, table_short, table_columns, table_map}
use Rattle.tables.proofs.read.read_part.Goals as goal

pub returns-in_err-byte : goal.returns-in_err-byte
returns-in_err-byte c =
    let p = err_from_is_err_and c.from_residual.result c.from_residual.ensures.1 in
    rw (p.1, p.2) (table_ended c.args.part _ c.in_err-byte.ensures.value)

pub returns-in_err-rows : goal.returns-in_err-rows
returns-in_err-rows c =
    let p = err_from_is_err_and c.from_residual-in_err-rows.result c.from_residual-in_err-rows.ensures.1 in
    rw (p.1, p.2) (table_rows c.args.part _ c.in_ok-byte.ensures.value _ c.in_err-rows.ensures.value)

pub returns-in_err-byte-2 : goal.returns-in_err-byte-2
returns-in_err-byte-2 c =
    let p = err_from_is_err_and c.from_residual-in_err-byte-2.result c.from_residual-in_err-byte-2.ensures.1 in
    rw (p.1, p.2) (table_short c.args.part _ c.in_ok-byte.ensures.value _ c.in_ok-rows.ensures.value c.byte.new.self c.in_ok-byte.ensures.past _ c.in_err-byte-2.ensures.value)

pub returns-in_err-columns : goal.returns-in_err-columns
returns-in_err-columns c =
    let p = err_from_is_err_and c.from_residual-in_err-columns.result c.from_residual-in_err-columns.ensures.1 in
    rw (p.1, p.2) (table_columns c.args.part _ c.in_ok-byte.ensures.value _ c.in_ok-rows.ensures.value c.byte.new.self c.in_ok-byte.ensures.past _ c.in_ok-byte-2.ensures.value _ c.in_err-columns.ensures.value)

pub returns : goal.returns
returns c = c.read_map.ensures ∙ table_map c.args.part _ c.in_ok-byte.ensures.value _ c.in_ok-rows.ensures.value c.byte.new.self c.in_ok-byte.ensures.past _ c.in_ok-byte-2.ensures.value _ c.in_ok-columns.ensures.value c.byte-2.new.self c.in_ok-byte-2.ensures.past
