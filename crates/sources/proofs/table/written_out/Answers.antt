use Rattle.sources.proofs.Drawing.{written_in_front}
use Rattle.sources.proofs.table.written_out.Goals as goal

pub returns : goal.returns
returns c = written_in_front c.args.rows.now c.copy_from_slice.new.self 64 c.copy_from_slice.ensures.after
