use Rattle.graphs.proofs.Rows.{Upto}
use Rattle.books.specs.Fit.{passes_at, handed}
use Rattle.books.proofs.Fitting.{Built}
use Rattle.books.proofs.suited_rows.Given as goal

abbrev pub invariant-loop-b : goal.invariant-loop-b
invariant-loop-b g l = Upto l.b (passes_at (g.B.Book.suiting l.book l.unit) l.bays) l.row

abbrev pub invariant-loop-u : goal.invariant-loop-u
invariant-loop-u g l = Built l.rows l.u (handed (g.B.Book.suiting l.book) l.units l.bays).suits
