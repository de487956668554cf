use Rattle.std.proofs.Common.{ℕ, ◌-◌, ◌/◌, ◌^◌, sym, ap, ◌∙◌, subst}
use lib.Bits.{bit_and}
use Rattle.graphs.specs.Graph.{Graph}
use Rattle.graphs.specs.declared.RowNodes.{RowNodes}
use Rattle.graphs.proofs.Lowest.{turn, no_more}
use Rattle.consistency.proofs.Lowest.{Apart, apart_start, apart_more, apart_end, apart_full, differing_revised}
use Rattle.consistency.proofs.revise.Goals as goal

pub returns-then-not-joined-problem : goal.returns-then-not-joined-problem
returns-then-not-joined-problem g c =
    differing_revised (g.R.Source.graph c.args.problem.now.room.now) (g.R.Source.sound c.args.problem.now.room.now).few
    c.args.joined.out c.args.joined.back c.args.problem.now.strict c.args.row c.args.other c.differing.result
    c.if-not-joined-problem.true c.differing.ensures

pub loop-c-init : goal.loop-c-init
loop-c-init g c =
    subst (λ (rest : ℕ). Apart (g.R.Source.graph c.args.problem.now.room.now) c.args.joined.out c.args.joined.back c.args.problem.now.strict c.args.row c.args.other rest 0)
    (sym (ap (λ (s : RowNodes). s.rest) c.into_iter-c-iterator.ensures.into_iter_gives ∙ c.nodes-c-items.ensures))
    (apart_start (g.R.Source.graph c.args.problem.now.room.now) (g.R.Source.sound c.args.problem.now.room.now).few
    c.args.joined.out c.args.joined.back c.args.problem.now.strict c.args.row c.args.other c.count.result c.count.ensures)

pub returns-then-found-row : goal.returns-then-found-row
returns-then-found-row g c =
    let r : Graph = g.R.Source.graph c.args.problem.now.room.now in
    let few = (g.R.Source.sound c.args.problem.now.room.now).few in
    apart_full r few c.args.joined.out c.args.joined.back c.args.problem.now.strict c.args.row c.args.other _ _
    (apart_more r few c.args.joined.out c.args.joined.back c.args.problem.now.strict c.args.row c.args.other
    (turn c.loop-c.c-iterator c.next.new.self c.in-Some.ensures.steps) c.loop-c.invariant c.agreeing.ensures)
    (c.if-found-row.true ∙ ap (λ (n : ℕ). bit_and c.args.row (18446744073709551615 / 2 ^ (64 - n))) c.count.ensures)

pub loop-c-preserved : goal.loop-c-preserved
loop-c-preserved g c =
    apart_more (g.R.Source.graph c.args.problem.now.room.now) (g.R.Source.sound c.args.problem.now.room.now).few
    c.args.joined.out c.args.joined.back c.args.problem.now.strict c.args.row c.args.other
    (turn c.loop-c.c-iterator c.next.new.self c.in-Some.ensures.steps) c.loop-c.invariant c.agreeing.ensures

pub returns : goal.returns
returns g c =
    apart_end (g.R.Source.graph c.args.problem.now.room.now) (g.R.Source.sound c.args.problem.now.room.now).few
    c.args.joined.out c.args.joined.back c.args.problem.now.strict c.args.row c.args.other
    c.loop-c.c-iterator.rest c.loop-c.found c.loop-c.invariant (no_more c.loop-c.c-iterator c.in-None.ensures.steps.0)
