use Rattle.std.proofs.Common.{ap, ◌∙◌}
use Rattle.books.specs.Clearance.{figure_of}
use Rattle.books.proofs.Figures.{figure_lent}
use Rattle.books.proofs.clearance.figure.Goals as goal

pub returns : goal.returns
returns c =
    c.copied.ensures ∙ figure_lent c.args.figures.now c.from.result c.get.result c.get.ensures.lookup
    ∙ ap (figure_of c.args.figures.now) c.from.ensures
