use Rattle.consistency.proofs.Cuts.{Cutting}
use Rattle.consistency.proofs.cut_rows.Given as goal

abbrev pub invariant-loop-u : goal.invariant-loop-u
invariant-loop-u l = Cutting l.units l.keep l.initial.rows l.u-iterator.rest l.rows l.changed
