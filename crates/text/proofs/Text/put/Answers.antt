use Rattle.std.proofs.Common.{◌+◌, ◌≤◌, length, refl, arith}
use Rattle.text.proofs.Lay.{lay_part}
use Rattle.text.proofs.Text.put.Goals as goal

pub returns : goal.returns
returns c =
    let room : c.args.self.now.len + length c.args.bytes.now ≤ length c.args.self.now.out.now = search arith in
    record { cases = (room, record { place = refl; after = lay_part _ _ _ _ room c.copy_from_slice.ensures.after; same = refl }) }
