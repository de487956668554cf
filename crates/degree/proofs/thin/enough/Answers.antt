use Rattle.std.proofs.Common.{ℕ, ◌-◌, Bool, not, ◌&&◌, ◌||◌, leb, List, get_or, sym, ap, ap₂, ◌∙◌, arith}
use Rattle.std.proofs.Math.Bool.{and-true}
use Rattle.graphs.specs.Graph.{Graph}
use Rattle.graphs.proofs.Bits.{bit_of_and}
use Rattle.degree.specs.Degree.{degree_within, all_nodes}
use Rattle.degree.specs.Degrees.{at_least_is, apart_is}
use Rattle.degree.proofs.thin.enough.Goals as goal

pub returns-then-problem : goal.returns-then-problem
returns-then-problem g c b l =
    let a : Graph = g.A.Source.graph c.args.problem.now.arrangement.now in
    let r : Graph = g.R.Source.graph c.args.problem.now.room.now in
    let s = g.R.Source.sound c.args.problem.now.room.now in
    let few = (g.A.Source.sound c.args.problem.now.arrangement.now).few in
    let d : ℕ = degree_within a all_nodes c.args.u in
    let e : ℕ = degree_within r all_nodes b in
    let fewer : List ℕ = c.args.fewer.now in
    let joints = c.degree_of-joints.ensures in
    bit_of_and (18446744073709551615 - get_or fewer c.degree_of-joints.result 0) (get_or fewer c.saturating_sub.result 0) b
    ∙ ap₂ (λ (p q : Bool). p && q)
    (at_least_is r b l s fewer c.requires.sorted c.degree_of-joints.result d joints.degree (omega (arith, few, joints.below)))
    (apart_is r b l s fewer c.requires.sorted c.saturating_sub.result (a.count - 1 - d) (omega (arith, joints.degree, c.requires.all_units, c.requires.all_bays, c.saturating_sub.ensures)))
    ∙ sym (ap (λ (p : Bool). leb d e && (not p || leb (a.count - 1 - d) (r.count - 1 - e))) c.if-problem.true)

pub returns-else-problem : goal.returns-else-problem
returns-else-problem g c b l =
    let a : Graph = g.A.Source.graph c.args.problem.now.arrangement.now in
    let r : Graph = g.R.Source.graph c.args.problem.now.room.now in
    let few = (g.A.Source.sound c.args.problem.now.arrangement.now).few in
    let d : ℕ = degree_within a all_nodes c.args.u in
    let e : ℕ = degree_within r all_nodes b in
    let joints = c.degree_of-joints.ensures in
    at_least_is r b l (g.R.Source.sound c.args.problem.now.room.now) c.args.fewer.now c.requires.sorted c.degree_of-joints.result d joints.degree (omega (arith, few, joints.below))
    ∙ sym (ap (λ (p : Bool). leb d e && (not p || leb (a.count - 1 - d) (r.count - 1 - e))) c.if-problem.false ∙ and-true (leb d e))
