use Rattle.std.proofs.Common.{length, sym, ap, arith}
use Rattle.std.proofs.lemmas.Result.{err_from_is_err_and}
use Rattle.tables.specs.Bytes.{Bytes}
use Rattle.jobs.proofs.Jobs.{job_exact}
use Rattle.jobs.proofs.Steps.{room_fails, kinds_fail, heights_fail, plan_fails, sizes_fail, rest_fails, job_read, job_lawful, plan_behind}
use Rattle.jobs.proofs.read.read_job.Goals as goal

pub returns-in_err-room-clause-value : goal.returns-in_err-room-clause-value
returns-in_err-room-clause-value c =
    let p = err_from_is_err_and c.from_residual-in_err-room.result c.from_residual-in_err-room.ensures.1 in
    rw (p.1, p.2) (room_fails _ _ c.in_ok-mode.ensures _ _ c.in_ok-arrangement.ensures.value _ c.in_err-room.ensures.value)

pub returns-in_err-kinds-clause-value : goal.returns-in_err-kinds-clause-value
returns-in_err-kinds-clause-value c =
    let p = err_from_is_err_and c.from_residual-in_err-kinds.result c.from_residual-in_err-kinds.ensures.1 in
    rw (p.1, p.2) (rest_fails _ _ c.in_ok-mode.ensures _ _ c.in_ok-arrangement.ensures.value _ _ c.in_ok-room.ensures.value _ _
    (ap length c.rows-units.ensures.value) (ap length c.rows-bays.ensures.value) _
    (kinds_fail c.args.input.now c.in_ok-room.cards_at (length c.rows-units.result.now) (length c.rows-bays.result.now) _ c.in_err-kinds.ensures.value))

pub returns-in_err-heights-clause-value : goal.returns-in_err-heights-clause-value
returns-in_err-heights-clause-value c =
    let p = err_from_is_err_and c.from_residual-in_err-heights.result c.from_residual-in_err-heights.ensures.1 in
    rw (p.1, p.2) (rest_fails _ _ c.in_ok-mode.ensures _ _ c.in_ok-arrangement.ensures.value _ _ c.in_ok-room.ensures.value _ _
    (ap length c.rows-units.ensures.value) (ap length c.rows-bays.ensures.value) _
    (heights_fail _ _ _ _ _ c.in_ok-kinds.ensures.value _ c.in_err-heights.ensures.value))

pub returns-in_err-struck-clause-value : goal.returns-in_err-struck-clause-value
returns-in_err-struck-clause-value c =
    let p = err_from_is_err_and c.from_residual-in_err-struck.result c.from_residual-in_err-struck.ensures.1 in
    rw (p.1, p.2) (rest_fails _ _ c.in_ok-mode.ensures _ _ c.in_ok-arrangement.ensures.value _ _ c.in_ok-room.ensures.value _ _
    (ap length c.rows-units.ensures.value) (ap length c.rows-bays.ensures.value) _
    (plan_fails _ _ _ _ _ c.in_ok-kinds.ensures.value _ c.in_ok-heights.ensures.value _ c.in_err-struck.ensures.value))

pub returns-then-not-sizes_match-clause-value : goal.returns-then-not-sizes_match-clause-value
returns-then-not-sizes_match-clause-value c =
    rest_fails _ _ c.in_ok-mode.ensures _ _ c.in_ok-arrangement.ensures.value _ _ c.in_ok-room.ensures.value _ _
    (ap length c.rows-units.ensures.value) (ap length c.rows-bays.ensures.value) _
    (sizes_fail _ _ _ _ _ c.in_ok-kinds.ensures.value _ c.in_ok-heights.ensures.value _ c.in_ok-struck.ensures.value (sym c.if-not-sizes_match.ensures))

pub returns : goal.returns
returns c =
    let bytes : Bytes c.args.input.now = λ i. omega (arith, c.type_inv.input i) in
    let value =
    job_read c.args.input.now _ c.in_ok-mode.ensures _ _ c.in_ok-arrangement.ensures.value _ _ c.in_ok-room.ensures.value _ _
    (ap length c.rows-units.ensures.value) (ap length c.rows-bays.ensures.value) c.in_ok-kinds.kinds c.in_ok-heights.heights _
    c.in_ok-kinds.ensures.value c.in_ok-heights.ensures.value c.in_ok-struck.ensures.value (sym c.if-not-sizes_match.ensures) in
    record {
      value = value;
      lawful = job_lawful c.args.input.now _ bytes value;
      plan = plan_behind c.args.input.now _ _ bytes c.in_ok-struck.ensures.value;
      exact = job_exact;
    }
