use Rattle.std.proofs.Common.{◌∙◌, arith}
use Rattle.filters.specs.Laws.{then_resumes, then_applies}
use Rattle.filters.proofs.chain.ThenFilter.resume.Goals as goal

pub returns-then-first-eq0 : goal.returns-then-first-eq0
returns-then-first-eq0 g c =
    let first = c.args.self.now.first in
    let second = c.args.self.now.second in
    record {
      resumes = then_resumes (g.F.Filter.left first) (g.G.Filter.left second) (g.met.F.Filter.lawful first) (g.met.G.Filter.lawful second)
          (g.A.Source.graph c.args.problem.now.arrangement.now) (g.R.Source.graph c.args.problem.now.room.now) c.args.problem.now.strict c.args.changed
          c.args.rows.now c.resume-first.new.rows c.resume.new.rows
          c.resume-first.ensures.resumes c.resume.ensures.resumes (omega (arith, c.resume-first.ensures.counts.taken, c.if-first-eq0.true));
      counts = record { taken = omega (arith, c.resume-first.ensures.counts.taken, c.resume.ensures.counts.taken, c.if-first-eq0.true); empty = c.resume.ensures.counts.empty };
    }

pub then-requires : goal.then-requires
then-requires g c =
    let few = c.countable.ensures c.if-not-countable.false in
    omega (arith, c.resume-first.ensures.counts.taken, c.apply-second.ensures.counts.taken)

pub returns : goal.returns
returns g c =
    let first = c.args.self.now.first in
    let second = c.args.self.now.second in
    record {
      resumes = then_applies (g.F.Filter.left first) (g.G.Filter.left second) (g.met.F.Filter.lawful first) (g.met.G.Filter.lawful second)
          (g.A.Source.graph c.args.problem.now.arrangement.now) (g.R.Source.graph c.args.problem.now.room.now) c.args.problem.now.strict c.args.changed
          c.args.rows.now c.resume-first.new.rows c.apply-second.new.rows
          c.resume-first.ensures.resumes c.apply-second.ensures.rows;
      counts = record { taken = omega (arith, c.resume-first.ensures.counts.taken, c.apply-second.ensures.counts.taken, c.then.ensures.taken); empty = c.then.ensures.empty ∙ c.apply-second.ensures.counts.empty };
    }
