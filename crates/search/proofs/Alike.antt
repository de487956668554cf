-- Two lawful filters find the same. Assumes nothing.
use Rattle.std.proofs.Common.{Some, None}
use Rattle.placements.proofs.Orders.{answers_unique}
use Rattle.search.specs.Walk.{setting, walk}
use Rattle.search.specs.Found.{Sought, SoughtAfter, FiltersAlike}
use Rattle.search.proofs.Whole.{finds_first, finds_next}

pub filters_alike : FiltersAlike
filters_alike a r strict f g None rows lf lg sa sr ok =
    answers_unique (Sought a r strict rows) (walk (setting a r strict f) None rows).found (walk (setting a r strict g) None rows).found
    (finds_first (setting a r strict f) rows lf sa sr ok) (finds_first (setting a r strict g) rows lg sa sr ok)
filters_alike a r strict f g (Some last) rows lf lg sa sr ok =
    answers_unique (SoughtAfter a r strict rows last) (walk (setting a r strict f) (Some last) rows).found (walk (setting a r strict g) (Some last) rows).found
    (finds_next (setting a r strict f) rows last lf sa sr ok) (finds_next (setting a r strict g) rows last lg sa sr ok)
