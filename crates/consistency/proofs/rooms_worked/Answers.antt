use Rattle.std.proofs.Common.{refl}
use Rattle.consistency.specs.Theory.{support_greatest}
use Rattle.consistency.proofs.Rooms.{rooms_hold}
use Rattle.consistency.proofs.rooms_worked.Goals as goal

pub returns : goal.returns
returns c = record { count = refl; worked = rooms_hold; greatest = support_greatest }
