use Rattle.std.proofs.Common.{ℕ, ◌*◌, arith, rules, tests}
use Rattle.graphs.specs.Rows.{row_of}
use Rattle.graphs.specs.WallGrid.{wall_joined}
use Rattle.graphs.proofs.FromFn.{made_by}
use Rattle.sources.proofs.Drawing.{all_drawn}
use Rattle.sources.proofs.Grids.{past_count}
use Rattle.sources.proofs.wall.Extent.rows.Goals as goal

pub returns : goal.returns
returns c =
    let w : ℕ = c.args.self.now.columns in
    let n : ℕ = c.args.self.now.columns * c.args.self.now.levels in
    let row : ℕ → ℕ = λ a. row_of n (wall_joined w n a) in
    all_drawn row c.from_fn.result c.from_fn.ensures.items.long
    (made_by _ _ row (λ i y q k. search (rules, tests)) c.from_fn.result 64 c.from_fn.ensures.items)
    (λ a ge. past_count w n a (let f = c.args.self.now.few in omega arith))
