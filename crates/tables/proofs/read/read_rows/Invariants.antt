use Rattle.tables.proofs.Coming.{Coming}
use Rattle.tables.proofs.read.read_rows.Given as goal

abbrev pub invariant-loop-k : goal.invariant-loop-k
invariant-loop-k l = Coming l.fn.part l.part l.map l.counts.columns l.counts.rows l.k-iterator.rest l.bits
