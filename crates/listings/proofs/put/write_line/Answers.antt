use Rattle.std.proofs.Common.{◌+◌, [], ◌∷◌, ◌++◌, sym, ap, arith}
use Rattle.std.proofs.lemmas.List.{take_all}
use Rattle.listings.specs.Text.{spaced}
use Rattle.listings.proofs.Writing.{wrote_nothing, then_wrote, then, unfit, put_writes, writes_same, spaced_more, line_front}
use Rattle.listings.proofs.put.write_line.Goals as goal

pub loop-u-init : goal.loop-u-init
loop-u-init c = wrote_nothing _

pub returns-in_err-write_bay : goal.returns-in_err-write_bay
returns-in_err-write_bay c =
    rw c.from_residual.ensures
    (unfit (line_front (c.loop-u.u + 1) c.args.bays.now)
    (writes_same (sym (spaced_more c.args.bays.now c.loop-u.u (omega arith))) (then c.loop-u.invariant _ c.in_err-write_bay.ensures)))

pub loop-u-preserved : goal.loop-u-preserved
loop-u-preserved c = rw (spaced_more c.args.bays.now c.loop-u.u (omega arith)) (then_wrote c.loop-u.invariant c.in_ok-write_bay.ensures.cases)

pub returns : goal.returns
returns c =
    writes_same (ap (λ t. spaced t ++ (10 ∷ [])) (take_all c.loop-u.u c.args.bays.now (omega arith)))
    (then c.loop-u.invariant _ (put_writes _ c.put.ensures))
