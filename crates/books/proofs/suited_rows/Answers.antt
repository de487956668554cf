use Rattle.std.proofs.Common.{◌≡◌, ℕ, ◌<◌, Bool, take, sym, ap, ◌∙◌, arith}
use Rattle.std.proofs.lemmas.List.{length-take}
use Rattle.graphs.specs.Rows.{bit}
use Rattle.graphs.proofs.Rows.{upto_none, upto_set, upto_pass}
use Rattle.books.specs.Fit.{passes_at, handed}
use Rattle.books.proofs.Fitting.{passes_here, passes_past, upto_all, built_none, built_more, built_all, handed_past_units, handed_first}
use Rattle.books.proofs.suited_rows.Goals as goal
use Rattle.books.proofs.suited_rows.Goals.{then-suits, else-suits}

pub loop-u-init : goal.loop-u-init
loop-u-init g c = built_none _

pub loop-b-init : goal.loop-b-init
loop-b-init g c = upto_none _

pub loop-b-preserved : goal.loop-b-preserved
loop-b-preserved g c =
    let bays = take c.min-2.result c.args.bays.now in
    let b = c.loop-b.b in
    let p : ℕ → Bool = passes_at (g.B.Book.suiting c.args.book.now c.index-units-u.result) bays in
    let below : b < 64 = omega (arith, length-take c.min-2.result c.args.bays.now) in
    let here : p b ≡ c.suits.result =
    passes_here (g.B.Book.suiting c.args.book.now c.index-units-u.result) bays b c.index-bays-b.result c.loop-b-test.true c.index-bays-b.is ∙ sym c.suits.ensures in
    elim c.if-suits.branch [
      | then-suits w ↦ λ k. ap (λ (x : ℕ). bit x k) w.row-is ∙ upto_set p c.loop-b.row b below c.loop-b.invariant (here ∙ w.if-suits.true) k
      | else-suits w ↦ λ k. ap (λ (x : ℕ). bit x k) w.row-is ∙ upto_pass p c.loop-b.row b c.loop-b.invariant (here ∙ w.if-suits.false) k
    ]

pub loop-u-preserved : goal.loop-u-preserved
loop-u-preserved g c =
    let test = g.B.Book.suiting c.args.book.now in
    let units = take c.min.result c.args.units.now in
    let bays = take c.min-2.result c.args.bays.now in
    let u = c.loop-u.u in
    let unit = c.index-units-u.result in
    let below : u < 24 = omega (arith, length-take c.min.result c.args.units.now) in
    built_more c.loop-u.rows u c.loop-b.row (handed test units bays).suits below c.loop-u.invariant
    (λ b.
    upto_all c.loop-b.b c.loop-b.row (passes_at (test unit) bays) c.loop-b.invariant (λ k le. passes_past (test unit) bays k (omega (arith, c.loop-b-test.false))) b
    ∙ sym (passes_here (λ card. passes_at (test card) bays b) units u unit c.loop-u-test.true c.index-units-u.is))

pub returns : goal.returns
returns g c = λ u b.
    let test = g.B.Book.suiting c.args.book.now in
    let i = c.min.result in
    let j = c.min-2.result in
    let us = c.args.units.now in
    let bs = c.args.bays.now in
    built_all c.loop-u.rows c.loop-u.u (handed test (take i us) (take j bs)).suits c.loop-u.invariant
    (λ v k le. handed_past_units test (take i us) (take j bs) v k (omega (arith, c.loop-u-test.false))) u b
    ∙ handed_first test us bs 24 64 i j u b (omega arith) (omega arith)
