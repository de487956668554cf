use Rattle.std.proofs.Common.{ℕ, sym, ap, ◌∙◌}
use Rattle.std.proofs.lemmas.Bool.{both_ways}
use Rattle.graphs.specs.Rows.{bit}
use Rattle.graphs.specs.Graph.{Graph}
use Rattle.graphs.proofs.Bits.{bit_none}
use Rattle.consistency.specs.Support.{revised}
use Rattle.consistency.proofs.Cuts.{cut_nothing, inside_all}
use Rattle.consistency.proofs.cut_class.Goals as goal

pub returns-then-units-eq0 : goal.returns-then-units-eq0
returns-then-units-eq0 g c =
    cut_nothing c.args.units (revised (g.R.Source.graph c.args.problem.now.room.now) c.args.joined.out c.args.joined.back c.args.problem.now.strict 18446744073709551615 c.args.other) c.args.rows.now
    (λ u b i t. absurd (both_ways (bit c.args.units u) (ap (λ (x : ℕ). bit x u) c.if-units-eq0.true ∙ bit_none u) i))

pub returns-then-keep-count : goal.returns-then-keep-count
returns-then-keep-count g c =
    let r : Graph = g.R.Source.graph c.args.problem.now.room.now in
    let keep : ℕ = revised r c.args.joined.out c.args.joined.back c.args.problem.now.strict 18446744073709551615 c.args.other in
    cut_nothing c.args.units keep c.args.rows.now
    (λ u b i t. inside_all r.count c.count.result keep c.args.rows.now (g.R.Source.sound c.args.problem.now.room.now).few c.requires.below c.count.ensures
    (sym c.revise-keep.ensures ∙ c.if-keep-count.true) u b t)
