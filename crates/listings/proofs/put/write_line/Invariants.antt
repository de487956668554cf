use Rattle.std.proofs.Common.{take}
use Rattle.text.specs.Put.{Wrote}
use Rattle.listings.specs.Text.{spaced}
use Rattle.listings.proofs.put.write_line.Given as goal

abbrev pub invariant-loop-u : goal.invariant-loop-u
invariant-loop-u l = Wrote (spaced (take l.u l.bays)) l.initial.text l.text
