use Rattle.std.proofs.Common.{refl}
use Rattle.plans.proofs.Fitting.{suited_here, fit_step, fit_inside, fit_blank}
use Rattle.plans.proofs.plan.Plan.fit.Goals as goal

pub invariant_of-self-clause-fitted_inside : goal.invariant_of-self-clause-fitted_inside
invariant_of-self-clause-fitted_inside g c =
    let p = c.args.self.now in
    let f = g.B.Book.suiting c.args.book.now in
    let e = c.in_ok-one_card_each.ensures.counts in
    fit_inside f c.args.units.now c.args.bays.now p.bays c.suited_rows-suited.result e.1 (suited_here f c.args.units.now c.args.bays.now p c.suited_rows-suited.result e.0 e.1 c.suited_rows-suited.ensures)

pub invariant_of-self-clause-fitted_blank : goal.invariant_of-self-clause-fitted_blank
invariant_of-self-clause-fitted_blank g c =
    let p = c.args.self.now in
    let f = g.B.Book.suiting c.args.book.now in
    let e = c.in_ok-one_card_each.ensures.counts in
    fit_blank f c.args.units.now c.args.bays.now p.units c.suited_rows-suited.result e.0 (suited_here f c.args.units.now c.args.bays.now p c.suited_rows-suited.result e.0 e.1 c.suited_rows-suited.ensures)

pub returns : goal.returns
returns g c =
    let p = c.args.self.now in
    let f = g.B.Book.suiting c.args.book.now in
    let t = c.in_ok-one_card_each.ensures.tests in
    let e = c.in_ok-one_card_each.ensures.counts in
    fit_step f c.args.units.now c.args.bays.now p _ c.suited_rows-suited.result t e.0 e.1
    (suited_here f c.args.units.now c.args.bays.now p c.suited_rows-suited.result e.0 e.1 c.suited_rows-suited.ensures) refl refl refl refl refl
