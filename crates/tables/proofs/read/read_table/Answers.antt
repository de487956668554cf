use Rattle.std.proofs.Common.{◌≡◌, ◌+◌, length, drop, arith, length-drop}
use Rattle.std.proofs.lemmas.List.{take_rest}
use Rattle.tables.specs.Read.{read_table}
use Rattle.tables.proofs.Steps.{table_none}
use Rattle.tables.proofs.Tables.{table_within, seen_within}
use Rattle.tables.proofs.read.read_table.Goals as goal

pub returns-then-at-input-clause-value : goal.returns-then-at-input-clause-value
returns-then-at-input-clause-value c = table_none _ _ _ (omega (arith, length-drop c.args.at c.args.input.now))

value : goal.returns-clause-value
value c =
    let ends : c.args.at + length (drop c.args.at c.args.input.now) ≡ length c.args.input.now = omega (arith, length-drop c.args.at c.args.input.now) in
    let o = c.read_part.ensures in
    rw (take_rest, ends) at o

pub returns-clause-value : goal.returns-clause-value
returns-clause-value c = value c

pub returns-clause-within : goal.returns-clause-within
returns-clause-within c =
    seen_within c.read_part.result (read_table c.args.input.now c.args.at) (length c.args.input.now) (value c)
    (table_within c.args.input.now c.args.at (λ i. omega (arith, c.type_inv.input i)))
