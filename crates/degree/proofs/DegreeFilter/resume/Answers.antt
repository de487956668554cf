use Rattle.filters.proofs.Kept.{kept_resumes}
use Rattle.degree.specs.Degree.{degree_test}
use Rattle.degree.proofs.DegreeFilter.resume.Goals as goal

pub returns : goal.returns
returns g c = record {
  resumes = kept_resumes degree_test (g.A.Source.graph c.args._problem.now.arrangement.now) (g.R.Source.graph c.args._problem.now.room.now) c.args._problem.now.strict c.args._changed c.args.rows.now;
  counts = c.nothing_taken.ensures;
}
