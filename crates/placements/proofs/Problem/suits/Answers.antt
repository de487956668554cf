use Rattle.std.proofs.Common.{◌≡◌, ℕ, ◌+◌, Bool, ◌&&◌, ◌||◌, eqb, length, get_or, sym, ap, ◌∙◌, arith, rules, tests}
use Rattle.std.proofs.lemmas.Bool.{lt-ltb}
use Rattle.std.proofs.lemmas.Iterator.{YieldsList-from_slice}
use Rattle.std.proofs.lemmas.Iterator.Consumers.{YieldsList-from_enumerate}
use Rattle.std.proofs.lemmas.Iterator.Search.{all_from_yields_List}
use Rattle.graphs.specs.Graph.{Graph}
use Rattle.placements.specs.Agreement.{agrees}
use Rattle.placements.specs.Tests.{each_below}
use Rattle.placements.proofs.Deciding.{list_each}
use Rattle.placements.proofs.Problem.suits.Goals as goal

pub returns-then-b-count : goal.returns-then-b-count
returns-then-b-count g c =
    let a : Graph = g.A.Source.graph c.args.self.now.arrangement.now in
    let r : Graph = g.R.Source.graph c.args.self.now.room.now in
    let t : ℕ → ℕ → Bool = λ v d. eqb c.args.u v || agrees a r c.args.self.now.strict c.args.u c.args.b v d in
    all_from_yields_List (λ q. t q.0 q.1) _ _ c.all.result c.all.ensures.ran (YieldsList-from_enumerate (YieldsList-from_slice c.args.bays.now (cc)) cc) (λ x b q k. search (rules, tests))
    ∙ list_each t c.args.bays.now 0 (λ v. t v (get_or c.args.bays.now v 0)) (λ k. ap (λ (m : ℕ). t m (get_or c.args.bays.now k 0)) (let z : k ≡ 0 + k = omega arith in z))
    ∙ sym (ap (λ (s : Bool). s && each_below (length c.args.bays.now) (λ v. t v (get_or c.args.bays.now v 0))) (lt-ltb c.args.b r.count (omega (arith, c.if-b-count.true, c.count.ensures))))
