use Rattle.std.proofs.Common.{◌-◌, [], length, is_some, unwrap_or, option_copied}
use Rattle.search.specs.Walk.{asked}
use Rattle.search.proofs.Going.{Going}
use Rattle.search.proofs.Walk.+settle_from.Given as goal

abbrev pub decreases-settle_from : goal.decreases-settle_from
decreases-settle_from g l = length l.rows.now - l.u

abbrev pub invariant-loop-b : goal.invariant-loop-b
invariant-loop-b g l =
    Going (asked g.A.Source.graph g.R.Source.graph g.F.Filter.left l.self) (unwrap_or (option_copied l.last) []) (is_some (option_copied l.last)) l.u l.rows l.tries l.so_far l.b-iterator.rest l.next
