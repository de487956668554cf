use Rattle.std.proofs.Common.{◌≡◌, ℕ, ◌+◌, ◌&&◌, eqb, ltb, get_or, ap, ◌∙◌, arith}
use Rattle.graphs.specs.Graph.{Graph}
use Rattle.graphs.proofs.Rows.{row_is}
use Rattle.degree.specs.Degree.{degree_within, all_nodes}
use Rattle.degree.specs.Degrees.{sorted_none, sorted_more}
use Rattle.degree.proofs.joints.with_joints.Goals as goal

pub loop-b-init : goal.loop-b-init
loop-b-init g c = sorted_none (degree_within (g.S.Source.graph c.args.source.now) all_nodes)

pub loop-b-preserved : goal.loop-b-preserved
loop-b-preserved g c =
    let few = (g.S.Source.sound c.args.source.now).few in
    sorted_more (degree_within (g.S.Source.graph c.args.source.now) all_nodes) c.loop-b.b c.degree_of.result c.loop-b.rows
    c.degree_of.ensures.degree (omega (arith, few, c.degree_of.ensures.below)) (omega (arith, few, c.count-b-end.ensures, c.loop-b-test.true)) c.loop-b.invariant

pub returns : goal.returns
returns g c =
    let G : Graph = g.S.Source.graph c.args.source.now in
    let e : c.loop-b.b ≡ G.count = omega (arith, c.count-b-end.ensures, c.loop-b-test.false, c.loop-b.auto.b-end) in
    λ k l. row_is G.count (get_or c.loop-b.rows k 0) (λ b. eqb (degree_within G all_nodes b + 1) k)
    (λ v. c.loop-b.invariant.exact k l v ∙ ap (λ (n : ℕ). ltb v n && eqb (degree_within G all_nodes v + 1) k) e)
