use Rattle.listings.proofs.Writing.{then, longer, put_writes}
use Rattle.listings.proofs.put.write_refusal.Goals as goal

pub returns-in_err-write_next : goal.returns-in_err-write_next
returns-in_err-write_next c =
    rw (c.from_residual-in_err-write_next.ensures, ← c.from.ensures, ← c.from-2.ensures)
    (then c.in_ok-put.ensures.cases.1 _ (longer _ c.in_err-write_next.ensures))

pub returns-in_err-write_next-2 : goal.returns-in_err-write_next-2
returns-in_err-write_next-2 c =
    rw (c.from_residual-in_err-write_next-2.ensures, ← c.from.ensures, ← c.from-2.ensures, ← c.from-3.ensures, ← c.from-4.ensures)
    (then c.in_ok-put.ensures.cases.1 _ (then c.in_ok-write_next.ensures.cases _ (longer _ c.in_err-write_next-2.ensures)))

pub returns-in_err-write_next-3 : goal.returns-in_err-write_next-3
returns-in_err-write_next-3 c =
    rw (c.from_residual-in_err-write_next-3.ensures, ← c.from.ensures, ← c.from-2.ensures, ← c.from-3.ensures, ← c.from-4.ensures)
    (then c.in_ok-put.ensures.cases.1 _
    (then c.in_ok-write_next.ensures.cases _ (then c.in_ok-write_next-2.ensures.cases _ (longer _ c.in_err-write_next-3.ensures))))

pub returns : goal.returns
returns c =
    rw (← c.from.ensures, ← c.from-2.ensures, ← c.from-3.ensures, ← c.from-4.ensures)
    (then c.in_ok-put.ensures.cases.1 _
    (then c.in_ok-write_next.ensures.cases _
    (then c.in_ok-write_next-2.ensures.cases _ (then c.in_ok-write_next-3.ensures.cases _ (put_writes _ c.put-2.ensures)))))
