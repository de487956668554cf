use Rattle.std.proofs.Common.{ℕ, ◌<◌, get_or, replicate, sym, ap, ◌∙◌, arith}
use Rattle.std.proofs.lemmas.Bool.{eqb-true}
use Rattle.graphs.specs.Graph.{Graph}
use Rattle.filters.specs.Shapes.{shape_of}
use Rattle.consistency.proofs.Steps.{thin_none, cleared}
use Rattle.consistency.proofs.Turns.{sweep_start, sweep_end, lowest_unit, turn_start, turn_end, turn_less, class_is, turn_short, turn_more}
use Rattle.consistency.proofs.settle.Goals as goal

pub returns-then-contains : goal.returns-then-contains
returns-then-contains g c =
    let a : Graph = g.A.Source.graph c.args.problem.now.arrangement.now in
    let r : Graph = g.R.Source.graph c.args.problem.now.room.now in
    let q = c.if-contains.ensures.cases in
    let h = cleared a r c.args.problem.now.strict c.args.rows.now c.args.rows.now c.fill.new.self c.requires
    (thin_none a r c.args.problem.now.strict c.args.rows.now c.requires) (record { unit = q.0; below = q.1; empty = eqb-true (get_or c.args.rows.now q.0 0) 0 (q.2 0) })
    (c.fill.ensures.after (λ x e. e)) in
    record { inside = h.inside; all = λ e. c.fill.ensures.after (λ x e. e); greatest = λ p. h }

pub sweep-init : goal.sweep-init
sweep-init g c = sweep_start c.requires

pub returns-then-changed-eq0-clause-greatest : goal.returns-then-changed-eq0-clause-greatest
returns-then-changed-eq0-clause-greatest g c = sweep_end c.sweep.invariant c.if-changed-eq0.true

pub bounds-rows-v : goal.bounds-rows-v
bounds-rows-v g c = (lowest_unit c.sweep.invariant (omega arith)).1

pub loop-class-init : goal.loop-class-init
loop-class-init g c = turn_start c.sweep.invariant (omega arith)

pub sweep-smaller : goal.sweep-smaller
sweep-smaller g c = turn_less (omega arith) c.loop-class.invariant

pub sweep-preserved : goal.sweep-preserved
sweep-preserved g c = turn_end c.sweep.invariant (omega arith) c.loop-class.invariant (omega arith)

pub cut_class-requires : goal.cut_class-requires
cut_class-requires g c =
    let a : Graph = g.A.Source.graph c.args.problem.now.arrangement.now in
    let r : Graph = g.R.Source.graph c.args.problem.now.room.now in
    let lv = lowest_unit c.sweep.invariant (let l : 0 < c.sweep.changed = omega arith in l) in
    let cl = class_is a r c.args.rows.now c.requires lv.0 c.column-from.ensures c.row-to.ensures c.class_of-units.ensures in
    let s = shape_of a r c.loop-class.rows c.loop-class.invariant.thin.shape in
    record { within = λ u t. omega (arith, cl.below u t, s.many); below = s.rest }

pub loop-class-preserved : goal.loop-class-preserved
loop-class-preserved g c =
    let a : Graph = g.A.Source.graph c.args.problem.now.arrangement.now in
    let r : Graph = g.R.Source.graph c.args.problem.now.room.now in
    let lv = lowest_unit c.sweep.invariant (let l : 0 < c.sweep.changed = omega arith in l) in
    let cl = class_is a r c.args.rows.now c.requires lv.0 c.column-from.ensures c.row-to.ensures c.class_of-units.ensures in
    turn_more (g.R.Source.sound c.args.problem.now.room.now).few lv.0 c.loop-class.invariant cl c.cut_class.auto.rows c.cut_class.ensures
    c.in-Some.cut c.in-Some.is

pub returns : goal.returns
returns g c =
    let a : Graph = g.A.Source.graph c.args.problem.now.arrangement.now in
    let r : Graph = g.R.Source.graph c.args.problem.now.room.now in
    let lv = lowest_unit c.sweep.invariant (let l : 0 < c.sweep.changed = omega arith in l) in
    let cl = class_is a r c.args.rows.now c.requires lv.0 c.column-from.ensures c.row-to.ensures c.class_of-units.ensures in
    let h = turn_short (g.R.Source.sound c.args.problem.now.room.now).few lv.0 c.loop-class.invariant cl c.cut_class.auto.rows c.cut_class.ensures c.requires c.sweep.invariant.thin
    c.in_default.is (c.fill-2.ensures.after (λ x e. e)) in
    record { inside = h.inside; all = λ e. c.fill-2.ensures.after (λ x e. e) ∙ ap (λ (n : ℕ). replicate {A = ℕ} n 0) (sym c.fill-2.ensures.len ∙ h.as_many); greatest = λ p. h }
