use Rattle.std.proofs.Common.{◌≡◌, true, false, None, length, sym, ◌∙◌}
use Rattle.std.proofs.lemmas.Bool.{both_ways}
use Rattle.filters.specs.Filter.{shaped}
use Rattle.filters.specs.Shapes.{shape_of}
use Rattle.search.specs.Walk.{Setting, Outcome, setting, walk}
use Rattle.search.specs.Found.{Sought}
use Rattle.placements.proofs.Morphisms.{open_is_mono, strict_is_induced}
use Rattle.search.proofs.Alike.{filters_alike}
use Rattle.search.proofs.Answered.{accepted, declined, searched}
use Rattle.search.proofs.Counted.{counts_tries}
use Rattle.search.proofs.Whole.{finds_first}
use Rattle.search.proofs.first.Goals as goal

pub returns-then-not-well_shaped : goal.returns-then-not-well_shaped
returns-then-not-well_shaped g c =
    let w : Setting = setting (g.A.Source.graph c.args.problem.now.arrangement.now) (g.R.Source.graph c.args.problem.now.room.now) c.args.problem.now.strict (g.F.Filter.left c.args.filter.now) in
    let ill : shaped w.arrangement w.room c.args.rows.now ≡ false = sym c.well_shaped.ensures ∙ c.if-not-well_shaped.true in
    record {
      answer = declined (shaped w.arrangement w.room c.args.rows.now) (walk w None c.args.rows.now) ill;
      first = λ ok. both_ways _ ill ok;
      theorem = finds_first;
      counted = counts_tries;
      alike = filters_alike;
      monomorphisms = open_is_mono;
      induced = strict_is_induced;
    }

pub returns : goal.returns
returns g c =
    let w : Setting = setting (g.A.Source.graph c.args.problem.now.arrangement.now) (g.R.Source.graph c.args.problem.now.room.now) c.args.problem.now.strict (g.F.Filter.left c.args.filter.now) in
    let rows = c.args.rows.now in
    let ok : shaped w.arrangement w.room rows ≡ true = sym c.well_shaped.ensures ∙ c.if-not-well_shaped.false in
    let o : Outcome = walk w None rows in
    record {
      answer = accepted (shaped w.arrangement w.room rows) o c.search_rows.result ok c.search_rows.ensures;
      first = λ _. searched (Sought w.arrangement w.room w.strict rows) (length rows) o c.search_rows.result c.search_rows.ensures
          (λ q h. h.0.whole ∙ sym (shape_of w.arrangement w.room rows ok).many)
          (finds_first w rows (g.met.F.Filter.lawful c.args.filter.now) (g.A.Source.sound c.args.problem.now.arrangement.now) (g.R.Source.sound c.args.problem.now.room.now) ok);
      theorem = finds_first;
      counted = counts_tries;
      alike = filters_alike;
      monomorphisms = open_is_mono;
      induced = strict_is_induced;
    }
