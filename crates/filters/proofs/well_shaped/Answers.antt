use Rattle.std.proofs.Common.{ℕ, ◌^◌, ◌<◌, ◌≤◌, get_or, sym, ◌∙◌, subst, inl, inr, arith, pow_mono}
use Rattle.std.proofs.lemmas.Bool.{cases_Bool}
use Rattle.graphs.specs.Graph.{Graph}
use Rattle.graphs.proofs.Bits.{div_none, below_none}
use Rattle.filters.specs.Filter.{shaped}
use Rattle.filters.specs.Shapes.{shape_of, all_below_at, shaped_from}
use Rattle.filters.proofs.Unions.{union_more}
use Rattle.filters.proofs.well_shaped.Goals as goal
use Rattle.filters.proofs.well_shaped.Goals.{else-bays-lt64-via-then-bays-lt64+else-union-bays-ne0, else-bays-lt64-via-else-bays-lt64}

pub loop-row-preserved : goal.loop-row-preserved
loop-row-preserved g c = union_more c.args.rows.now c.loop-row.row-index c.loop-row.union c.loop-row.invariant

pub returns-then-union-bays-ne0 : goal.returns-then-union-bays-ne0
returns-then-union-bays-ne0 g c =
    let a : Graph = g.A.Source.graph c.args.problem.now.arrangement.now in
    let r : Graph = g.R.Source.graph c.args.problem.now.room.now in
    elim (cases_Bool (shaped a r c.args.rows.now)) [
      | inl t ↦ absurd (c.if-union-bays-ne0.true (div_none c.loop-row.union c.count-bays.result
          (subst (λ (n : ℕ). c.loop-row.union < 2 ^ n) (sym c.count-bays.ensures)
          (c.loop-row.invariant.below r.count (all_below_at r.count c.args.rows.now (shape_of a r c.args.rows.now t).rest)))))
      | inr f ↦ sym f
    ]

pub returns : goal.returns
returns g c =
    let union : ℕ = c.loop-row.union in
    let n : ℕ = c.count-bays.result in
    let below : union < 2 ^ n = elim c.else-bays-lt64.branch [
      | else-bays-lt64-via-then-bays-lt64+else-union-bays-ne0 w ↦ below_none union n w.if-union-bays-ne0.false
      | else-bays-lt64-via-else-bays-lt64 w ↦ let m : 2 ^ 64 ≤ 2 ^ n = pow_mono w.if-bays-lt64.false in omega (arith, c.loop-row.auto.union-fits)
    ] in
    shaped_from (g.A.Source.graph c.args.problem.now.arrangement.now) (g.R.Source.graph c.args.problem.now.room.now) c.args.rows.now
    (c.if-rows-count.false ∙ c.count.ensures) (omega arith)
    (λ u l. subst (λ (k : ℕ). get_or c.args.rows.now u 0 < 2 ^ k) c.count-bays.ensures (let h = c.loop-row.invariant.holds u (omega arith) in omega arith))
