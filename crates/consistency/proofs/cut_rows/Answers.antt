use Rattle.std.proofs.Common.{ℕ, get_or, sym, ap, ◌∙◌, subst, arith, length-set, get_or-set_same}
use lib.Bits.{bit_and}
use Rattle.graphs.specs.declared.RowNodes.{RowNodes}
use Rattle.graphs.proofs.Lowest.{turn, no_more}
use Rattle.consistency.proofs.Cuts.{Cutting, cutting_start, lowest_here, cutting_pass, cutting_step, cut_all, cut_short}
use Rattle.consistency.proofs.cut_rows.Goals as goal

pub loop-u-init : goal.loop-u-init
loop-u-init c =
    subst (λ (rest : ℕ). Cutting c.args.units c.args.keep c.args.rows.now rest c.args.rows.now 0)
    (sym (ap (λ (s : RowNodes). s.rest) c.into_iter-u-iterator.ensures.into_iter_gives ∙ c.nodes-u-items.ensures)) (cutting_start c.args.units c.args.keep c.args.rows.now)

pub offset_bounds-rows-u : goal.offset_bounds-rows-u
offset_bounds-rows-u c = let l = (turn c.loop-u.u-iterator c.next.new.self c.in-Some.ensures.steps).under in omega arith

pub bounds-rows-u : goal.bounds-rows-u
bounds-rows-u c = lowest_here _ _ _ (turn c.loop-u.u-iterator c.next.new.self c.in-Some.ensures.steps) c.loop-u.invariant c.requires

pub bounds-rows-u-then-row-old : goal.bounds-rows-u-then-row-old
bounds-rows-u-then-row-old c = lowest_here _ _ _ (turn c.loop-u.u-iterator c.next.new.self c.in-Some.ensures.steps) c.loop-u.invariant c.requires

pub overflow_shl-changed : goal.overflow_shl-changed
overflow_shl-changed c = (turn c.loop-u.u-iterator c.next.new.self c.in-Some.ensures.steps).under

pub returns-then-row-eq0 : goal.returns-then-row-eq0
returns-then-row-eq0 c =
    let n = turn c.loop-u.u-iterator c.next.new.self c.in-Some.ensures.steps in
    let l = lowest_here _ _ _ n c.loop-u.invariant c.requires in
    let row : ℕ = bit_and (get_or c.loop-u.rows c.in-Some.u 0) c.args.keep in
    cut_short _ _ _ _ _ c.in-Some.u _ (cutting_step _ _ _ n c.loop-u.invariant c.requires c.if-row-old.true)
    (omega (arith, length-set c.loop-u.rows c.in-Some.u row)) (get_or-set_same c.loop-u.rows c.in-Some.u row 0 l ∙ c.if-row-eq0.true)

pub loop-u-preserved-else-row-eq0 : goal.loop-u-preserved-else-row-eq0
loop-u-preserved-else-row-eq0 c = cutting_step _ _ _ (turn c.loop-u.u-iterator c.next.new.self c.in-Some.ensures.steps) c.loop-u.invariant c.requires c.if-row-old.true

pub loop-u-preserved : goal.loop-u-preserved
loop-u-preserved c = cutting_pass _ _ _ (turn c.loop-u.u-iterator c.next.new.self c.in-Some.ensures.steps) c.loop-u.invariant c.if-row-old.false

pub returns : goal.returns
returns c = cut_all _ _ _ _ _ _ c.loop-u.invariant (no_more c.loop-u.u-iterator c.in-None.ensures.steps.0)
