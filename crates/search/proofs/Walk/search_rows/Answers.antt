use Rattle.std.proofs.Common.{◌≡◌, Ok, Err, MatchResult, option_copied, ap, ◌∙◌, rules}
use Rattle.filters.specs.Shapes.{shape_of}
use Rattle.search.specs.declared.SearchError.TheVariants.{NoPlacement}
use Rattle.search.specs.Walk.{Setting, asked, filtered}
use Rattle.search.proofs.Answered.{answers_empty, answers_settled}
use Rattle.search.proofs.Walk.search_rows.Goals as goal

pub returns-then-apply-gt0 : goal.returns-then-apply-gt0
returns-then-apply-gt0 g c =
    let w : Setting = asked g.A.Source.graph g.R.Source.graph g.F.Filter.left c.args.self.now in
    let left : c.apply.new.rows ≡ filtered w c.args.rows.now = c.apply.ensures.rows ∙ ap (filtered w) c.copy_from_slice.ensures.after in
    answers_empty w (option_copied c.args.last) c.args.rows.now c.apply.new.rows left c.apply.result.empty c.apply.ensures.counts.empty c.if-apply-gt0.true

pub returns : goal.returns
returns g c =
    let w : Setting = asked g.A.Source.graph g.R.Source.graph g.F.Filter.left c.args.self.now in
    let left : c.apply.new.rows ≡ filtered w c.args.rows.now = c.apply.ensures.rows ∙ ap (filtered w) c.copy_from_slice.ensures.after in
    let long = (shape_of w.arrangement w.room c.args.rows.now c.requires.shape).many in
    let is : MatchResult c.settle_from.result (λ f. c.map_err.result ≡ Ok f) (λ n. c.map_err.result ≡ Err (NoPlacement n)) = search rules in
    answers_settled w (option_copied c.args.last) c.args.rows.now c.apply.new.rows left c.apply.result.empty c.apply.ensures.counts.empty
    (g.met.F.Filter.lawful c.args.self.now.filter.now) long c.if-apply-gt0.false c.settle_from.result c.settle_from.ensures c.map_err.result is
