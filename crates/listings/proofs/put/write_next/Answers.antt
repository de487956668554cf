use Rattle.listings.proofs.Writing.{then, put_writes}
use Rattle.listings.proofs.put.write_next.Goals as goal

pub returns : goal.returns
returns c = then c.in_ok-put.ensures.cases.1 _ (put_writes _ c.put_number.ensures)
