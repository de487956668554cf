use Rattle.std.proofs.Common.{◌≡◌, ℕ, ◌&&◌, ltb, sym, ap, ◌∙◌, arith}
use Rattle.graphs.specs.Rows.{bit}
use Rattle.graphs.proofs.Rows.{row_is, upto_none, upto_set, upto_pass}
use Rattle.graphs.proofs.row_where.Goals as goal
use Rattle.graphs.proofs.row_where.Goals.{then-passes, else-passes}

pub loop-b-init : goal.loop-b-init
loop-b-init g c = λ p says. upto_none p

pub loop-b-preserved : goal.loop-b-preserved
loop-b-preserved g c = λ p says.
    let b = c.loop-b.b in
    let answer : c.passes.result ≡ p b = says b c.passes.result c.loop-b-test.true c.passes.ensures in
    elim c.if-passes.branch [
      | then-passes w ↦ λ k. ap (λ (x : ℕ). bit x k) w.row-is ∙ upto_set p c.loop-b.row b (omega (arith, c.loop-b-test.true, c.requires.few)) (c.loop-b.invariant p says) (sym answer ∙ w.if-passes.true) k
      | else-passes w ↦ λ k. ap (λ (x : ℕ). bit x k) w.row-is ∙ upto_pass p c.loop-b.row b (c.loop-b.invariant p says) (sym answer ∙ w.if-passes.false) k
    ]

pub returns : goal.returns
returns g c = λ p says.
    row_is c.args.count c.loop-b.row p (λ k. c.loop-b.invariant p says k ∙ ap (λ (n : ℕ). ltb k n && p k) (let z : c.loop-b.b ≡ c.args.count = omega (arith, c.loop-b-test.false, c.loop-b.auto.b-end) in z))
