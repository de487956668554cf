use Rattle.std.proofs.Common.{ℕ, Bool, not, ◌-◌, ◌&&◌, get_or, ap, ◌∙◌, rules, tests}
use lib.Bits.{bit_and}
use Rattle.graphs.specs.Rows.{bit, pairs}
use Rattle.graphs.proofs.FromFn.{made_by}
use Rattle.graphs.proofs.PairSets.{all_rows, past_table, bit_without}
use Rattle.graphs.proofs.pairs.without.Goals as goal

pub returns : goal.returns
returns c =
    let xs = c.args.rows.now in
    let ys = c.args.other.now in
    let row : ℕ → ℕ = λ u. bit_and (get_or xs u 0) (18446744073709551615 - get_or ys u 0) in
    all_rows (λ u b. pairs xs u b && not (pairs ys u b)) c.from_fn.result c.from_fn.ensures.items.long
    (λ u b l. ap (λ (x : ℕ). bit x b) (made_by _ _ row (λ i y q k. search (rules, tests)) c.from_fn.result 24 c.from_fn.ensures.items u l)
    ∙ bit_without (get_or xs u 0) (get_or ys u 0) b (c.fits-rows u) (c.fits-other u))
    (λ u b le. ap (λ (t : Bool). t && not (pairs ys u b)) (past_table xs c.told-rows u b le))
