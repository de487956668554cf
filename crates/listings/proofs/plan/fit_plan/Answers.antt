use Rattle.std.proofs.Common.{rules, arith}
use Rattle.listings.specs.Suited.{kind_card, height_card}
use Rattle.listings.proofs.Carding.{carded}
use Rattle.listings.proofs.plan.fit_plan.Goals as goal

pub returns-in-One : goal.returns-in-One
returns-in-One c =
    let units = carded _ c.from_fn-units.ensures.items kind_card c.kinds-kinds.result.now (search arith) (λ i y q r. search rules) in
    let bays = carded _ c.from_fn-bays.ensures.items height_card c.heights-heights.result.now (search arith) (λ i y q r. search rules) in
    rw (c.in-One.is, ← c.kinds-kinds.ensures, ← c.heights-heights.ensures, ← units, ← bays) c.fit.ensures

pub returns-in-Two : goal.returns-in-Two
returns-in-Two c =
    let units = carded _ c.from_fn-units.ensures.items kind_card c.kinds-kinds.result.now (search arith) (λ i y q r. search rules) in
    let bays = carded _ c.from_fn-bays.ensures.items height_card c.heights-heights.result.now (search arith) (λ i y q r. search rules) in
    rw (c.in-Two.is, ← c.kinds-kinds.ensures, ← c.heights-heights.ensures, ← units, ← bays) c.fit-in-Two.ensures
