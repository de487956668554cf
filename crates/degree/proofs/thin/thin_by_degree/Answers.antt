use Rattle.std.proofs.Common.{◌≡◌, ℕ, ◌+◌, ◌-◌, ◌≤◌, Bool, true, ◌&&◌, List, get_or, sym, ap, ◌∙◌, arith, inl, inr}
use lib.Bits.{bit_and}
use lib.Count.{ones}
use Rattle.std.proofs.lemmas.Bool.{and_parts, cond-false, cases_Bool}
use Rattle.graphs.specs.Rows.{bit}
use Rattle.graphs.specs.Graph.{Graph, Sound}
use Rattle.graphs.proofs.Bits.{bit_of_and}
use Rattle.filters.specs.Filter.{shaped}
use Rattle.filters.specs.Counting.{ones_mono}
use Rattle.filters.specs.Shapes.{shape_of, shaped_few}
use Rattle.filters.proofs.Kept.{Thinned, thinned_more, thinned_all, thinned_fits}
use Rattle.degree.specs.Degree.{degree_test}
use Rattle.degree.proofs.Rooms.{worked}
use Rattle.degree.proofs.thin.thin_by_degree.Goals as goal

fewer_ones : (row enough : ℕ) → ones (bit_and row enough) ≤ ones row
fewer_ones row enough = ones_mono (bit_and row enough) row (λ b t. (and_parts _ _ (sym (bit_of_and row enough b) ∙ t)).0)

taken_fits : (a r : Graph) (k : Bool) (start rows : List ℕ) (u taken : ℕ) → Sound r → true ≡ shaped a r start → Thinned (degree_test a r k) start u rows taken
    → taken + ones (get_or rows u 0) ≤ 1536
taken_fits a r k start rows u taken so e h = omega (arith, shaped_few a r start so (sym e), thinned_fits (degree_test a r k) start u rows taken h)

pub returns-then-not-well_shaped : goal.returns-then-not-well_shaped
returns-then-not-well_shaped g c = record {
  rows = sym (cond-false (shaped (g.A.Source.graph c.args.problem.now.arrangement.now) (g.R.Source.graph c.args.problem.now.room.now) c.args.rows.now) _ c.args.rows.now (sym c.well_shaped.ensures ∙ c.if-not-well_shaped.true));
  counts = c.nothing_taken.ensures;
  worked = worked;
}

pub overflow_sub-taken : goal.overflow_sub-taken
overflow_sub-taken g c = fewer_ones _ c.enough.result

pub overflow_cast-taken : goal.overflow_cast-taken
overflow_cast-taken g c =
    omega (
      arith,
      taken_fits (g.A.Source.graph c.args.problem.now.arrangement.now) (g.R.Source.graph c.args.problem.now.room.now) c.args.problem.now.strict
          c.args.rows.now c.loop-u.rows c.loop-u.u c.loop-u.taken (g.R.Source.sound c.args.problem.now.room.now) (sym c.if-not-well_shaped.false ∙ c.well_shaped.ensures) c.loop-u.invariant,
    )

pub overflow_add-taken : goal.overflow_add-taken
overflow_add-taken g c =
    omega (
      arith,
      taken_fits (g.A.Source.graph c.args.problem.now.arrangement.now) (g.R.Source.graph c.args.problem.now.room.now) c.args.problem.now.strict
          c.args.rows.now c.loop-u.rows c.loop-u.u c.loop-u.taken (g.R.Source.sound c.args.problem.now.room.now) (sym c.if-not-well_shaped.false ∙ c.well_shaped.ensures) c.loop-u.invariant,
    )

pub loop-u-preserved : goal.loop-u-preserved
loop-u-preserved g c =
    let a : Graph = g.A.Source.graph c.args.problem.now.arrangement.now in
    let r : Graph = g.R.Source.graph c.args.problem.now.room.now in
    let start = c.args.rows.now in
    let u : ℕ = c.loop-u.u in
    let row : ℕ = get_or c.loop-u.rows u 0 in
    let x : ℕ = c.enough.result in
    let s = shape_of a r start (sym c.well_shaped.ensures ∙ c.if-not-well_shaped.false) in
    let same : row ≡ get_or start u 0 = c.loop-u.invariant.rest u (omega arith) in
    let passes : (b : ℕ) → (bit row b && bit x b) ≡ (bit row b && degree_test a r c.args.problem.now.strict u b) = λ b.
    elim (cases_Bool (bit row b)) [
      | inl t ↦ ap (λ (p : Bool). bit row b && p) (c.enough.ensures b (s.under u b (ap (λ (y : ℕ). bit y b) (sym same) ∙ t)))
      | inr f ↦ ap (λ (p : Bool). p && bit x b) f ∙ sym (ap (λ (p : Bool). p && degree_test a r c.args.problem.now.strict u b) f)
    ] in
    thinned_more (degree_test a r c.args.problem.now.strict) start u c.loop-u.rows c.loop-u.taken (bit_and row x)
    (ones row - ones (bit_and row x)) (omega arith) c.loop-u.invariant (λ b. bit_of_and row x b ∙ passes b) (omega (arith, fewer_ones row x))

pub returns : goal.returns
returns g c =
    let a : Graph = g.A.Source.graph c.args.problem.now.arrangement.now in
    let r : Graph = g.R.Source.graph c.args.problem.now.room.now in
    record {
      rows = thinned_all degree_test a r c.args.problem.now.strict c.args.rows.now c.loop-u.rows c.loop-u.u c.loop-u.taken
          (sym c.well_shaped.ensures ∙ c.if-not-well_shaped.false) (omega arith) c.loop-u.invariant;
      counts = record { taken = c.loop-u.invariant.counted; empty = c.empty_rows.ensures };
      worked = worked;
    }
