use Rattle.std.proofs.Common.{ℕ, ltb, List, ap, ◌∙◌, arith}
use Rattle.filters.specs.Shapes.{shape_of}
use Rattle.search.specs.Walk.{Setting, asked}
use Rattle.search.proofs.Narrowing.{left_shaped, left_under, cut_from}
use Rattle.search.proofs.Walk.attempt.Goals as goal

pub narrow-changed-requires : goal.narrow-changed-requires
narrow-changed-requires g c =
    let w : Setting = asked g.A.Source.graph g.R.Source.graph g.F.Filter.left c.args.self.now in
    let lawful = g.met.F.Filter.lawful c.args.self.now.filter.now in
    let l = left_under w c.args.rows.now lawful c.requires.left c.args.u c.args.b c.requires.held in
    let shape = shape_of w.arrangement w.room c.args.rows.now (left_shaped w c.args.rows.now lawful c.requires.left) in
    let bays = (g.R.Source.sound c.args.self.now.problem.now.room.now).few in
    record {
      same = c.requires.same;
      few = omega (arith, shape.many, shape.few);
      unit = omega (arith, shape.many, shape.unit c.args.u c.args.b c.requires.held);
      bay = omega (arith, l, bays);
    }

pub returns : goal.returns
returns g c =
    let w : Setting = asked g.A.Source.graph g.R.Source.graph g.F.Filter.left c.args.self.now in
    let f : List ℕ → List ℕ = g.F.Filter.left c.args.self.now.filter.now (g.A.Source.graph c.args.self.now.problem.now.arrangement.now) (g.R.Source.graph c.args.self.now.problem.now.room.now) c.args.self.now.problem.now.strict in
    let from = c.requires.left in
    record {
      left = c.resume-counts.ensures.resumes from.before from.shape
          (cut_from w c.args.rows.now (g.met.F.Filter.lawful c.args.self.now.filter.now) from c.args.u c.args.b c.requires.held
          c.narrow-changed.result c.narrow-changed.new.next c.narrow-changed.ensures.next c.narrow-changed.ensures.changed)
          ∙ ap f c.narrow-changed.ensures.next;
      empty = ap (ltb 0) c.resume-counts.ensures.counts.empty;
    }
