use Rattle.std.proofs.Common.{arith}
use Rattle.std.proofs.lemmas.Bool.{leb-true}
use Rattle.filters.specs.Laws.{few_pairs}
use Rattle.filters.proofs.chain.countable.Goals as goal

pub returns : goal.returns
returns c e =
    let f = few_pairs c.args.rows.now (λ u. omega (arith, (c.type_inv.rows u).fits)) in
    omega (arith, leb-true _ _ e)
