use Rattle.filters.proofs.Unions.{UnionOf}
use Rattle.filters.proofs.well_shaped.Given as goal

abbrev pub invariant-loop-row : goal.invariant-loop-row
invariant-loop-row g l = UnionOf l.rows l.row-index l.union
