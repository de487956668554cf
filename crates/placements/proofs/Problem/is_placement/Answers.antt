use Rattle.std.proofs.Common.{◌≡◌, ℕ, ◌+◌, Bool, ◌&&◌, ◌||◌, eqb, ltb, length, get_or, sym, ap, ◌∙◌, arith, rules, tests}
use Rattle.std.proofs.lemmas.Bool.{eq-eqb}
use Rattle.std.proofs.lemmas.Bool.Decides.{Decides-at}
use Rattle.std.proofs.lemmas.Iterator.{YieldsList-from_slice}
use Rattle.std.proofs.lemmas.Iterator.Consumers.{YieldsList-from_enumerate}
use Rattle.std.proofs.lemmas.Iterator.Search.{all_from_yields_List}
use Rattle.graphs.specs.Graph.{Graph}
use Rattle.placements.specs.Agreement.{agrees}
use Rattle.placements.specs.Tests.{each_below, pair_test, unit_test, placement_test}
use Rattle.placements.proofs.Morphisms.{open_is_mono, strict_is_induced}
use Rattle.placements.proofs.Deciding.{list_each, placement_decides}
use Rattle.placements.proofs.Problem.is_placement.Goals as goal

pub returns-then-bays-count-clause-decides : goal.returns-then-bays-count-clause-decides
returns-then-bays-count-clause-decides g c =
    let a : Graph = g.A.Source.graph c.args.self.now.arrangement.now in
    let r : Graph = g.R.Source.graph c.args.self.now.room.now in
    let s : Bool = c.args.self.now.strict in
    let w = c.args.bays.now in
    let t : ℕ → ℕ → Bool = λ u b. ltb b r.count && each_below (length w) (λ v. eqb u v || agrees a r s u b v (get_or w v 0)) in
    let long : length w ≡ a.count = c.if-bays-count.true ∙ c.count.ensures in
    Decides-at c.all.result (placement_test a r s w)
    (all_from_yields_List (λ q. t q.0 q.1) _ _ c.all.result c.all.ensures.ran (YieldsList-from_enumerate (YieldsList-from_slice w (cc)) cc) (λ x b q k. search (rules, tests))
    ∙ list_each t w 0 (λ u. t u (get_or w u 0)) (λ k. ap (λ (m : ℕ). t m (get_or w k 0)) (let z : k ≡ 0 + k = omega arith in z))
    ∙ ap (λ (n : ℕ). each_below n (λ u. ltb (get_or w u 0) r.count && each_below n (pair_test a r s w u))) long
    ∙ sym (ap (λ (e : Bool). e && each_below a.count (unit_test a r s w)) (eq-eqb (length w) a.count long)))
    (placement_decides a r s w)

pub returns-then-bays-count-clause-monomorphism : goal.returns-then-bays-count-clause-monomorphism
returns-then-bays-count-clause-monomorphism g c = open_is_mono

pub returns-then-bays-count-clause-induced : goal.returns-then-bays-count-clause-induced
returns-then-bays-count-clause-induced g c = strict_is_induced

pub returns-else-bays-count-clause-monomorphism : goal.returns-else-bays-count-clause-monomorphism
returns-else-bays-count-clause-monomorphism g c = open_is_mono

pub returns-else-bays-count-clause-induced : goal.returns-else-bays-count-clause-induced
returns-else-bays-count-clause-induced g c = strict_is_induced
