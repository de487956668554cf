use Rattle.std.proofs.Common.{◌≡◌, ℕ, ◌&&◌, ap, ◌∙◌, arith}
use lib.Bits.{bit_and}
use lib.Count.{ones}
use Rattle.graphs.specs.Rows.{bit}
use Rattle.graphs.specs.Graph.{Graph}
use Rattle.degree.specs.Degree.{degree_within}
use Rattle.placements.proofs.Counting.{count_le}
use Rattle.degree.specs.Degrees.{ones_within}
use Rattle.degree.proofs.joints.joint_count.Given as given
use Rattle.degree.proofs.joints.joint_count.Goals as goal

counted : (g : given.Over) (c : goal.After-row g) → ones (bit_and c.row.result c.args.within) ≡ degree_within (g.S.Source.graph c.args.source.now) (bit c.args.within) c.args.node
counted g c =
    let G : Graph = g.S.Source.graph c.args.source.now in
    ap (λ (x : ℕ). ones (bit_and x c.args.within)) c.row.ensures ∙ ones_within G.count (G.joined c.args.node) c.args.within

pub overflow_cast-result : goal.overflow_cast-result
overflow_cast-result g c =
    let G : Graph = g.S.Source.graph c.args.source.now in
    omega (arith, counted g c, count_le G.count (λ b. G.joined c.args.node b && bit c.args.within b), (g.S.Source.sound c.args.source.now).few)

pub returns : goal.returns
returns g c = counted g c
