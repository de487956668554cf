use Rattle.std.proofs.Common.{rules, arith, tests}
use Rattle.std.proofs.lemmas.Iterator.{YieldsList-from_slice}
use Rattle.std.proofs.lemmas.Iterator.Adapters.{fits_from_length, at_most_from_yields_List}
use Rattle.filters.specs.Counting.{empty_count_is}
use Rattle.filters.proofs.empty_rows.Goals as goal

pub sum-requires-clause-fits : goal.sum-requires-clause-fits
sum-requires-clause-fits c = fits_from_length _ _ 9223372036854775807 _ (at_most_from_yields_List (YieldsList-from_slice c.args.rows.now (cc)) (omega (arith, c.iter.ensures.bound))) c.map.ensures.closure (omega arith) (λ x r q k. search (rules, tests))

pub returns : goal.returns
returns c = let e = empty_count_is c.args.rows.now in search rules
