use Rattle.std.proofs.Common.{refl}
use Rattle.rooms.proofs.Telling.{tells_right}
use Rattle.rooms.proofs.Rooms.{table_holds}
use Rattle.rooms.proofs.rooms_worked.Goals as goal

pub returns : goal.returns
returns c = record { many = refl; right = tells_right; table = table_holds }
