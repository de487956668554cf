use Rattle.std.proofs.Common.{arith}
use Rattle.books.proofs.Served.{served_common}
use Rattle.books.proofs.services.ServicesOneBook.suits.Goals as goal

pub returns : goal.returns
returns c = served_common 8 c.args.unit.now.needs c.args.bay.now.services (omega arith)
