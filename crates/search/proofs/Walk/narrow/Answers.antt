use Rattle.std.proofs.Common.{ℕ, length, get_or, ◌∙◌, arith}
use lib.Bits.{bit_and}
use Rattle.std.proofs.lemmas.List.FromFn.{fill_by_all}
use Rattle.graphs.specs.Graph.{Graph}
use Rattle.search.specs.Walk.{narrowed_row}
use Rattle.search.proofs.Narrowing.{narrows_start, narrows_more, row_bit, row_kept}
use Rattle.search.proofs.Walk.narrow.Goals as goal

pub loop-v-init : goal.loop-v-init
loop-v-init g c =
    narrows_start (g.A.Source.graph c.args.self.now.problem.now.arrangement.now) (g.R.Source.graph c.args.self.now.problem.now.room.now) c.args.self.now.problem.now.strict c.args.u c.args.b
    c.args.rows.now c.copy_from_slice.new.self c.requires.unit c.requires.few c.requires.bay c.copy_from_slice.ensures.after

pub bounds-next-v : goal.bounds-next-v
bounds-next-v g c = omega (arith, c.loop-v.invariant.long, c.loop-v-test.true)

pub loop-v-preserved : goal.loop-v-preserved
loop-v-preserved g c =
    let a : Graph = g.A.Source.graph c.args.self.now.problem.now.arrangement.now in
    let r : Graph = g.R.Source.graph c.args.self.now.problem.now.room.now in
    let sound = g.A.Source.sound c.args.self.now.problem.now.arrangement.now in
    let u = c.args.u in
    let rows = c.args.rows.now in
    let v = c.loop-v.v in
    let kept : ℕ = bit_and (get_or rows v 0) c.of.result in
    narrows_more (narrowed_row a r c.args.self.now.problem.now.strict u c.args.b rows) rows v c.loop-v.next c.loop-v.changed kept c.mark-changed.result
    c.loop-v-test.true
    c.loop-v.invariant
    (row_kept a r c.args.self.now.problem.now.strict u c.args.b rows v c.of.result c.holds.result c.holds-in-loop-v.result (omega (arith, c.loop-v.auto.v))
    (c.holds.ensures ∙ row_bit a (λ x. a.joined u x) (λ x l. sound.outside_to u x l) c.row-out.result v c.row-out.ensures)
    (c.holds-in-loop-v.ensures ∙ row_bit a (λ x. a.joined x u) (λ x l. sound.outside_from x u l) c.column-back.result v c.column-back.ensures)
    (c.of.ensures ∙ c.new-masks.ensures c.holds.result c.holds-in-loop-v.result))
    c.mark-changed.ensures

pub returns : goal.returns
returns g c =
    let f : ℕ → ℕ = narrowed_row (g.A.Source.graph c.args.self.now.problem.now.arrangement.now) (g.R.Source.graph c.args.self.now.problem.now.room.now) c.args.self.now.problem.now.strict c.args.u c.args.b c.args.rows.now in
    record {
      next = fill_by_all f c.loop-v.next (length c.args.rows.now) 0 c.loop-v.invariant.long (λ k l. c.loop-v.invariant.done k (omega (arith, c.loop-v-test.false)));
      changed = c.loop-v.invariant.same;
    }
