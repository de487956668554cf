use Rattle.std.proofs.Common.{ℕ, ◌<◌, sym, ◌∙◌, subst}
use Rattle.graphs.specs.Graph.{Graph}
use Rattle.degree.specs.Degrees.{degree_full, degree_less}
use Rattle.degree.proofs.joints.degree_of.Goals as goal

pub returns : goal.returns
returns g c =
    let G : Graph = g.S.Source.graph c.args.source.now in
    let sound = g.S.Source.sound c.args.source.now in
    let e = c.joint_count.ensures ∙ degree_full G sound c.args.node in
    record { degree = e; below = subst (λ (k : ℕ). k < G.count) (sym e) (degree_less G sound c.args.node) }
