use Rattle.std.proofs.Common.{ℕ, ◌+◌, ◌-◌, ◌*◌, ◌%◌, Bool, ◌&&◌, ◌||◌, eqb, ltb, leb, ap, ◌∙◌, arith}
use Rattle.std.proofs.lemmas.Bool.{ltb-true}
use Rattle.graphs.specs.Rows.{bit}
use Rattle.graphs.proofs.Bits.{bit_none}
use Rattle.sources.proofs.Grids.{past_count, within}
use Rattle.graphs.proofs.Walls.{right_below, wall_row}
use Rattle.sources.proofs.wall.Extent.neighbours.Goals as goal

pub returns-then-a-count : goal.returns-then-a-count
returns-then-a-count c = past_count c.args.self.now.columns (c.args.self.now.columns * c.args.self.now.levels) c.args.a (omega (arith, c.if-a-count.true, c.count-count.ensures))

pub returns : goal.returns
returns c =
    let a : ℕ = c.args.a in
    let w : ℕ = c.args.self.now.columns in
    let n : ℕ = c.args.self.now.columns * c.args.self.now.levels in
    wall_row c.args.self.now.columns c.args.self.now.levels a c.args.self.now.wide (omega arith) c.with_node.result
    (λ k. c.with_node.ensures k
    ∙ ap (λ (m : ℕ). bit c.with_node-below.result k || (ltb (a + w) m && (ltb (a + w) 64 && eqb (a + w) k))) c.count-count.ensures
    ∙ ap (λ (t : Bool). bit c.with_node-below.result k || t)
    (within (ltb (a + w) n) (eqb (a + w) k) (a + w) (λ e. let l = ltb-true (a + w) n e in omega (arith, c.args.self.now.few)))
    ∙ ap (λ (t : Bool). t || (ltb (a + w) n && eqb (a + w) k))
    (c.with_node-below.ensures k
    ∙ ap (λ (x : ℕ). bit c.with_node-level.result k || (leb w a && (ltb x 64 && eqb x k))) c.saturating_sub-2.ensures
    ∙ ap (λ (t : Bool). bit c.with_node-level.result k || t) (within (leb w a) (eqb (a - w) k) (a - w) (λ e. omega (arith, c.args.self.now.few, c.if-a-count.false, c.count-count.ensures)))
    ∙ ap (λ (t : Bool). t || (leb w a && eqb (a - w) k))
    (c.with_node-level.ensures k
    ∙ ap (λ (t : Bool). bit c.with_node-left.result k || t)
    (within (ltb (a % w + 1) w) (eqb (a + 1) k) (a + 1) (λ e.
    let l = right_below c.args.self.now.columns c.args.self.now.levels a c.args.self.now.wide (omega arith) (ltb-true (a % w + 1) w e) in
    omega (arith, c.args.self.now.few)))
    ∙ ap (λ (t : Bool). t || (ltb (a % w + 1) w && eqb (a + 1) k))
    (c.with_node-left.ensures k
    ∙ ap (λ (x : ℕ). bit 0 k || (ltb 0 (a % w) && (ltb x 64 && eqb x k))) c.saturating_sub.ensures
    ∙ ap (λ (t : Bool). bit 0 k || t) (within (ltb 0 (a % w)) (eqb (a - 1) k) (a - 1) (λ e. omega (arith, c.args.self.now.few, c.if-a-count.false, c.count-count.ensures)))
    ∙ ap (λ (t : Bool). t || (ltb 0 (a % w) && eqb (a - 1) k)) (bit_none k)))))
