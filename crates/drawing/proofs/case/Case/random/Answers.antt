use Rattle.std.proofs.Common.{◌^◌, ◌<◌}
use Rattle.std.proofs.lemmas.Nat.{pow_pos}
use Rattle.std.proofs.lemmas.List.Elements.{All-take, All-drop, All-append, All-replicate}
use Rattle.drawing.proofs.case.Case.random.Goals as goal

pub loop-row-init : goal.loop-row-init
loop-row-init c = All-take (λ row. row < 2 ^ c.args.bays.count) c.args.units.count _ (All-replicate (λ row. row < 2 ^ c.args.bays.count) 64 0 (pow_pos c.args.bays.count))

pub invariant_of-result : goal.invariant_of-result
invariant_of-result c = record {
  inside = All-append (λ row. row < 2 ^ c.args.bays.count) _ _ c.loop-row.invariant (All-drop (λ row. row < 2 ^ c.args.bays.count) c.args.units.count _ (All-replicate (λ row. row < 2 ^ c.args.bays.count) 64 0 (pow_pos c.args.bays.count)));
}
