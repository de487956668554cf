use Rattle.std.proofs.lemmas.Result.{err_from_is_err_and}
use Rattle.tables.specs.Form.{view}
use Rattle.saved.proofs.Plans.{plan_length, plan_saved_back}
use Rattle.saved.proofs.Tail.{tail_none, tail_err, tail_ok}
use Rattle.saved.proofs.write.save_plan.Goals as goal

pub returns-then-out-lt1 : goal.returns-then-out-lt1
returns-then-out-lt1 c =
    record { saved = tail_none _ _ c.if-out-lt1.true; back = tt; size = plan_length (view c.args.struck.now) }

pub returns-in_err-written : goal.returns-in_err-written
returns-in_err-written c =
    let p = err_from_is_err_and c.from_residual.result c.from_residual.ensures.1 in
    record {
      saved = rw (p.1, p.2) (tail_err _ c.args.out.now _ _ c.if-out-lt1.false c.in_err-written.ensures.saved);
      back = rw p.1 tt;
      size = plan_length (view c.args.struck.now);
    }

pub returns : goal.returns
returns c =
    let done = tail_ok _ c.args.out.now _ _ c.if-out-lt1.false c.in_ok-written.ensures.saved in
    record {
      saved = done;
      back = plan_saved_back (view c.args.struck.now) c.args.out.now _ _ done;
      size = plan_length (view c.args.struck.now);
    }
