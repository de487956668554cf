use Rattle.search.proofs.OfferedRow.{offers_some, offers_none}
use Rattle.search.proofs.offers.Goals as goal

pub returns-then-from-lt64 : goal.returns-then-from-lt64
returns-then-from-lt64 c = rw c.in-Some.is (offers_some c.args.row c.in-Some.bound c.args.last_unit c.ranges.row.fits c.if-from-lt64.true)

pub returns-else-from-lt64 : goal.returns-else-from-lt64
returns-else-from-lt64 c = rw c.in-Some.is (offers_none c.args.row c.in-Some.bound c.args.last_unit c.ranges.row.fits c.if-from-lt64.false)
