use Rattle.consistency.specs.Theory.{resumed}
use Rattle.consistency.proofs.ArcConsistencyFilter.resume.Goals as goal

pub returns : goal.returns
returns g c =
    record {
      resumes = λ before e h. resumed (g.A.Source.graph c.args.problem.now.arrangement.now) (g.R.Source.graph c.args.problem.now.room.now) c.args.problem.now.strict before c.args.rows.now c.settle_shaped.new.rows c.args.changed
          e h c.settle_shaped.ensures.greatest;
      counts = c.settle_shaped.ensures.counts;
    }
