use Rattle.std.proofs.Common.{◌≡◌, ℕ, ◌%◌, ◌^◌, min, List, map, length, take, length-take, get_or-take, ap, ◌∙◌, arith}
use Rattle.tables.specs.Form.{Form, form_of}
use Rattle.tables.proofs.Filling.{filling_none, filling_more, filling_done}
use Rattle.tables.proofs.table.Table.from_rows.Goals as goal

form_is : (n columns : ℕ) (rs rows : List ℕ) → n ≡ min columns 64 → rs ≡ map (λ row. row % 2 ^ n) (take 64 rows) → ◌≡◌ {A = Form} (record { columns = n; rows = rs }) (form_of columns rows)
form_is n columns rs rows e f =
    ap (λ r. record { columns = n; rows = r }) f ∙ ap (λ k. record { columns = k; rows = map (λ row. row % 2 ^ k) (take 64 rows) }) e

pub loop-k-init : goal.loop-k-init
loop-k-init c = filling_none _ _

pub loop-k-preserved : goal.loop-k-preserved
loop-k-preserved c =
    simp (c.cut.ensures, get_or-take c.min-count.result c.args.rows.now c.loop-k.k 0 (omega (arith, length-take c.min-count.result c.args.rows.now)))
    (filling_more c.loop-k.invariant (omega (arith, length-take c.min-count.result c.args.rows.now)) (omega (arith, length-take c.min-count.result c.args.rows.now)))

pub returns : goal.returns
returns c =
    let few : c.loop-k.k ≡ min (length c.args.rows.now) 64 = omega (arith, c.min-count.ensures, length-take c.min-count.result c.args.rows.now) in
    let same : c.min-count.result ≡ c.loop-k.k = omega (arith, few) in
    form_is _ _ _ c.args.rows.now c.min-width.ensures
    (ap (λ n. take n c.loop-k.bits) same ∙ filling_done c.loop-k.invariant few)
