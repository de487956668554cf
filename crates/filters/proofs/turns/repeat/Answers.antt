use Rattle.std.proofs.Common.{arith}
use Rattle.graphs.specs.Graph.{Graph}
use Rattle.filters.specs.Filter.{Meaning}
use Rattle.filters.specs.Laws.{again_start, again_fits, again_next, again_end, settles}
use Rattle.filters.proofs.turns.repeat.Goals as goal

pub turn-init : goal.turn-init
turn-init g c =
    let f : Meaning = g.F.Filter.left c.args.filter.now in
    again_start f (g.met.F.Filter.lawful c.args.filter.now) (g.A.Source.graph c.args.problem.now.arrangement.now) (g.R.Source.graph c.args.problem.now.room.now) c.args.problem.now.strict c.args.rows.now

pub overflow_add-taken : goal.overflow_add-taken
overflow_add-taken g c =
    let f : Meaning = g.F.Filter.left c.args.filter.now in
    let h = again_fits f (g.met.F.Filter.lawful c.args.filter.now)
    (g.A.Source.graph c.args.problem.now.arrangement.now) (g.R.Source.graph c.args.problem.now.room.now) c.args.problem.now.strict
    c.args.rows.now c.turn.rows c.apply-turn.new.rows c.turn.taken c.apply-turn.result.taken
    (g.R.Source.sound c.args.problem.now.room.now) c.turn.invariant c.apply-turn.ensures.rows c.apply-turn.ensures.counts.taken in
    omega arith

pub returns-then-turn-eq0 : goal.returns-then-turn-eq0
returns-then-turn-eq0 g c =
    let f : Meaning = g.F.Filter.left c.args.filter.now in
    let a : Graph = g.A.Source.graph c.args.problem.now.arrangement.now in
    let r : Graph = g.R.Source.graph c.args.problem.now.room.now in
    let h = again_end f (g.met.F.Filter.lawful c.args.filter.now) a r c.args.problem.now.strict
    c.args.rows.now c.turn.rows c.apply-turn.new.rows c.turn.taken c.apply-turn.result.taken
    c.turn.invariant c.apply-turn.ensures.rows c.apply-turn.ensures.counts.taken c.if-turn-eq0.true in
    record {
      rows = h.0;
      settles = settles f (g.met.F.Filter.lawful c.args.filter.now) a r c.args.problem.now.strict c.args.rows.now c.apply-turn.new.rows h.0;
      counts = record { taken = h.1; empty = c.apply-turn.ensures.counts.empty };
    }

pub turn-preserved : goal.turn-preserved
turn-preserved g c =
    again_next (g.F.Filter.left c.args.filter.now) (g.met.F.Filter.lawful c.args.filter.now)
    (g.A.Source.graph c.args.problem.now.arrangement.now) (g.R.Source.graph c.args.problem.now.room.now) c.args.problem.now.strict
    c.args.rows.now c.turn.rows c.apply-turn.new.rows c.turn.taken c.apply-turn.result.taken
    c.turn.invariant c.apply-turn.ensures.rows c.apply-turn.ensures.counts.taken c.if-turn-eq0.false
