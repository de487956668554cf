use Rattle.std.proofs.Common.{◌&&◌, refl, ap, ◌∙◌}
use Rattle.graphs.specs.Rows.{pairs}
use Rattle.plans.proofs.Fitting.{fitted_inside, fitted_blank, suited_here, fit_further_step, both_inside, both_blank}
use Rattle.plans.proofs.plan.Plan.fit_further.Goals as goal

pub invariant_of-self-2-clause-fitted_inside : goal.invariant_of-self-2-clause-fitted_inside
invariant_of-self-2-clause-fitted_inside g c =
    let p = c.args.self.now in
    both_inside p.bays c.in-Some.fitted c.common.result (pairs c.suited_rows-suited.result) (fitted_inside p c.in-Some.fitted c.in-Some.is) c.common.ensures

pub invariant_of-self-2-clause-fitted_blank : goal.invariant_of-self-2-clause-fitted_blank
invariant_of-self-2-clause-fitted_blank g c =
    let p = c.args.self.now in
    both_blank p.units c.in-Some.fitted c.common.result (pairs c.suited_rows-suited.result) (fitted_blank p c.in-Some.fitted c.in-Some.is) c.common.ensures

pub returns : goal.returns
returns g c =
    let p = c.args.self.now in
    let f = g.B.Book.suiting c.args.book.now in
    let t = c.in_ok-one_card_each.ensures.tests in
    let e = c.in_ok-one_card_each.ensures.counts in
    let is = suited_here f c.args.units.now c.args.bays.now p c.suited_rows-suited.result e.0 e.1 c.suited_rows-suited.ensures in
    fit_further_step f c.args.units.now c.args.bays.now p _ c.in-Some.fitted c.common.result t c.in-Some.is
    (λ u b. c.common.ensures u b ∙ ap (λ t. pairs c.in-Some.fitted u b && t) (is u b)) refl refl refl refl refl
