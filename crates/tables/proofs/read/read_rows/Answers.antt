use Rattle.std.proofs.Common.{ℕ, sym, ap, arith}
use Rattle.std.proofs.lemmas.Result.{err_from_is_err_and}
use Rattle.graphs.proofs.Lowest.{turn, no_more}
use Rattle.tables.specs.Read.{held}
use Rattle.tables.proofs.Steps.{Going, going_done}
use Rattle.tables.proofs.Coming.{coming_none, coming_stored, coming_refused, coming_all}
use Rattle.tables.proofs.read.read_rows.Goals.{In-None}
use Rattle.tables.proofs.read.read_rows.Goals as goal

pub loop-k-init : goal.loop-k-init
loop-k-init c = coming_none c.args.part c.args.map c.args.counts.columns c.args.counts.rows _ c.args.counts.few_rows c.requires cc

pub returns-in_err-bits : goal.returns-in_err-bits
returns-in_err-bits c =
    let t = turn c.loop-k.k-iterator c.next.new.self c.in-Some.ensures.steps in
    let p = err_from_is_err_and c.from_residual.result c.from_residual.ensures.1 in
    rw (p.1, p.2) (ap (held _) (coming_refused t c.loop-k.invariant _ (sym c.in_err-bits.ensures.value)))

pub bounds-bits-k : goal.bounds-bits-k
bounds-bits-k c = (turn c.loop-k.k-iterator c.next.new.self c.in-Some.ensures.steps).under

pub offset_bounds-bits-k : goal.offset_bounds-bits-k
offset_bounds-bits-k c = let l = (turn c.loop-k.k-iterator c.next.new.self c.in-Some.ensures.steps).under in omega arith

pub loop-k-preserved : goal.loop-k-preserved
loop-k-preserved c =
    let t = turn c.loop-k.k-iterator c.next.new.self c.in-Some.ensures.steps in
    coming_stored t c.loop-k.invariant _ c.read_row.new.part c.in_ok-bits.ensures.past (sym c.in_ok-bits.ensures.value)

all : (c : In-None) → (left : ℕ) × Going c.args.part c.loop-k.part c.args.map c.args.counts.columns c.args.counts.rows c.args.counts.rows left c.loop-k.bits
all c = coming_all (no_more c.loop-k.k-iterator c.in-None.ensures.steps.0) c.loop-k.invariant

pub invariant_of-table : goal.invariant_of-table
invariant_of-table c =
    let g = (all c).1 in
    record { few_rows = c.args.counts.few_rows; few_columns = c.args.counts.few_columns; inside = g.inside; blank = g.blank }

pub returns : goal.returns
returns c =
    let g = (coming_all (no_more c.loop-k.k-iterator c.in-None.ensures.steps.0) c.loop-k.invariant).1 in
    ap (held _) (going_done g)
