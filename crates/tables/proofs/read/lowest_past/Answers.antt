use Rattle.std.proofs.Common.{arith, rules}
use Rattle.tables.proofs.read.lowest_past.Goals as goal
use Rattle.tables.proofs.Words.{shr_past, past_lt}

pub returns-then-limit-ge64 : goal.returns-then-limit-ge64
returns-then-limit-ge64 c = record { value = rw (shr_past c.args.n c.args.limit (omega arith) c.if-limit-ge64.true); near = tt }

pub returns : goal.returns
returns c = record { value = search rules; near = past_lt c.args.n c.args.limit (omega arith) c.if-limit-ge64.false c.if-high-eq0.false }
