use Rattle.std.proofs.Common.{ltb, get_or, arith}
use Rattle.graphs.specs.Graph.{Graph}
use Rattle.graphs.proofs.Rows.{row_is}
use Rattle.degree.specs.Degree.{degree_within, all_nodes}
use Rattle.degree.specs.Degrees.{summed_none, summed_more}
use Rattle.degree.proofs.joints.with_fewer.Goals as goal

pub loop-row-init : goal.loop-row-init
loop-row-init g c =
    let G : Graph = g.S.Source.graph c.args.source.now in
    summed_none G.count (degree_within G all_nodes) c.with_joints-rows.result (omega arith) c.with_joints-rows.ensures

pub loop-row-preserved : goal.loop-row-preserved
loop-row-preserved g c =
    let G : Graph = g.S.Source.graph c.args.source.now in
    summed_more G.count (degree_within G all_nodes) c.loop-row.row-index c.loop-row.row-items c.loop-row.fewer (omega arith) c.loop-row.invariant

pub returns : goal.returns
returns g c =
    let G : Graph = g.S.Source.graph c.args.source.now in
    λ k l. row_is G.count (get_or c.loop-row.row-items k 0) (λ b. ltb (degree_within G all_nodes b) k) (c.loop-row.invariant.below k (omega arith))
