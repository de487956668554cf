use Rattle.std.proofs.Common.{Bool, sym, ap, ◌∙◌, ap₂, arith}
use Rattle.graphs.specs.Rows.{bit}
use Rattle.placements.specs.Agreement.{half}
use Rattle.placements.proofs.Masks.{bit_full, bit_inverse}
use Rattle.placements.proofs.one_way.Goals as goal

pub returns-then-joined : goal.returns-then-joined
returns-then-joined c b l = sym (ap (λ (j : Bool). half c.args.strict j (bit c.args.row b)) c.if-joined.true)

pub returns-then-strict : goal.returns-then-strict
returns-then-strict c b l =
    bit_inverse c.args.row b (omega arith) l
    ∙ sym (ap₂ (λ (s j : Bool). half s j (bit c.args.row b)) c.if-strict.true c.if-joined.false)

pub returns-else-strict : goal.returns-else-strict
returns-else-strict c b l =
    bit_full b l
    ∙ sym (ap₂ (λ (s j : Bool). half s j (bit c.args.row b)) c.if-strict.false c.if-joined.false)
