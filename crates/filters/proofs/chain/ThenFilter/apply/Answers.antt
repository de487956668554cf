use Rattle.std.proofs.Common.{ap, ◌∙◌, arith}
use Rattle.graphs.specs.Graph.{Graph}
use Rattle.filters.specs.Filter.{pair_count}
use Rattle.filters.specs.Shapes.{taken_few}
use Rattle.filters.proofs.chain.ThenFilter.apply.Goals as goal

pub then-requires : goal.then-requires
then-requires g c =
    let a : Graph = g.A.Source.graph c.args.problem.now.arrangement.now in
    let r : Graph = g.R.Source.graph c.args.problem.now.room.now in
    let sr = g.R.Source.sound c.args.problem.now.room.now in
    let first = c.args.self.now.first in
    let second = c.args.self.now.second in
    let x = taken_few (g.F.Filter.left first) (g.met.F.Filter.lawful first) a r c.args.problem.now.strict c.args.rows.now sr in
    let y = taken_few (g.G.Filter.left second) (g.met.G.Filter.lawful second) a r c.args.problem.now.strict c.apply-first.new.rows sr in
    omega (arith, ap pair_count c.apply-first.ensures.rows, ap pair_count c.apply-second.ensures.rows, c.apply-first.ensures.counts.taken, c.apply-second.ensures.counts.taken)

pub returns : goal.returns
returns g c = record {
  rows = c.apply-second.ensures.rows ∙ ap (g.G.Filter.left c.args.self.now.second (g.A.Source.graph c.args.problem.now.arrangement.now) (g.R.Source.graph c.args.problem.now.room.now) c.args.problem.now.strict) c.apply-first.ensures.rows;
  counts = record { taken = omega (arith, c.apply-first.ensures.counts.taken, c.apply-second.ensures.counts.taken, c.then.ensures.taken); empty = c.then.ensures.empty ∙ c.apply-second.ensures.counts.empty };
}
