use Rattle.std.proofs.Common.{◌≡◌, ℕ, ◌-◌, Bool, true, false, ◌&&◌, leb, List, length, take, sym, ap, ◌∙◌, arith}
use Rattle.std.proofs.lemmas.Bool.{both_ways, and_parts}
use Rattle.filters.specs.Filter.{shaped}
use Rattle.filters.specs.Shapes.{shape_of}
use Rattle.search.specs.Walk.{Setting, Outcome, setting, walk_from}
use Rattle.search.specs.Found.{SoughtAfter, answer_with}
use Rattle.search.proofs.Answered.{accepted, declined, searched}
use Rattle.search.proofs.Counted.{counts_tries}
use Rattle.search.proofs.Whole.{finds_next}
use Rattle.search.proofs.next_after.Goals as goal

pub returns-then-not-well_shaped-rows : goal.returns-then-not-well_shaped-rows
returns-then-not-well_shaped-rows g c =
    let w : Setting = setting (g.A.Source.graph c.args.problem.now.arrangement.now) (g.R.Source.graph c.args.problem.now.room.now) c.args.problem.now.strict (g.F.Filter.left c.args.filter.now) in
    let rows = c.args.rows.now in
    let last = c.args.last.now in
    let ill : (shaped w.arrangement w.room rows && leb (length rows) (length last)) ≡ false =
    ap (λ (t : Bool). t && leb (length rows) (length last)) (sym c.well_shaped.ensures) ∙ c.if-not-well_shaped-rows.true in
    record {
      answer = declined (shaped w.arrangement w.room rows && leb (length rows) (length last)) (walk_from w (take (length rows) last) true rows) ill;
      next = λ ok. both_ways _ ill ok;
      theorem = finds_next;
      counted = counts_tries;
    }

pub returns : goal.returns
returns g c =
    let w : Setting = setting (g.A.Source.graph c.args.problem.now.arrangement.now) (g.R.Source.graph c.args.problem.now.room.now) c.args.problem.now.strict (g.F.Filter.left c.args.filter.now) in
    let rows = c.args.rows.now in
    let last = c.args.last.now in
    let ok : (shaped w.arrangement w.room rows && leb (length rows) (length last)) ≡ true =
    ap (λ (t : Bool). t && leb (length rows) (length last)) (sym c.well_shaped.ensures) ∙ c.if-not-well_shaped-rows.false in
    let sh : shaped w.arrangement w.room rows ≡ true = (and_parts (shaped w.arrangement w.room rows) (leb (length rows) (length last)) ok).0 in
    let before : List ℕ = take (length rows) last in
    let o : Outcome = walk_from w before true rows in
    let is : c.search_rows.result ≡ answer_with o.found o.tries =
    c.search_rows.ensures ∙ ap (λ (k : ℕ). answer_with (walk_from w (take k last) true rows).found (walk_from w (take k last) true rows).tries) (let z : length rows - 0 ≡ length rows = omega arith in z) in
    record {
      answer = accepted (shaped w.arrangement w.room rows && leb (length rows) (length last)) o c.search_rows.result ok is;
      next = λ _. searched (SoughtAfter w.arrangement w.room w.strict rows before) (length rows) o c.search_rows.result is
          (λ q h. h.0.whole ∙ sym (shape_of w.arrangement w.room rows sh).many)
          (finds_next w rows before (g.met.F.Filter.lawful c.args.filter.now) (g.A.Source.sound c.args.problem.now.arrangement.now) (g.R.Source.sound c.args.problem.now.room.now) sh);
      theorem = finds_next;
      counted = counts_tries;
    }
