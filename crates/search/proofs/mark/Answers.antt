use Rattle.search.proofs.Narrowing.{mark_in}
use Rattle.search.proofs.mark.Goals as goal

pub returns-then-cut : goal.returns-then-cut
returns-then-cut c k e =
    let p = mark_in c.args.units c.args.v c.requires k e in
    (p.0, λ z. absurd (p.1 z))
