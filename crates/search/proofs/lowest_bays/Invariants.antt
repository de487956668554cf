use Rattle.std.proofs.Common.{◌≡◌, ◌++◌, map, take, drop, replicate}
use lib.Count.{count_trailing_zeros}
use Rattle.search.proofs.lowest_bays.Given as goal

abbrev pub invariant-loop-u : goal.invariant-loop-u
invariant-loop-u l = l.bays ≡ map (count_trailing_zeros 64) (take l.u l.rows) ++ drop l.u (replicate 24 0)
