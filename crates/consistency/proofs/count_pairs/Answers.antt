use Rattle.std.proofs.Common.{rules}
use Rattle.consistency.proofs.Counts.{pair_count_is}
use Rattle.consistency.proofs.count_pairs.Goals as goal

pub returns : goal.returns
returns c = let e = pair_count_is c.args.rows.now in search rules
