use Rattle.std.proofs.Common.{◌≡◌, ◌≤◌, true, refl, arith}
use Rattle.std.proofs.lemmas.Bool.{both_ways}
use Rattle.jobs.specs.Form.{view}
use Rattle.listings.proofs.Going.{seek_at, further_at}
use Rattle.listings.proofs.Listing.{written_none, written_more, written_unfit, written_all}
use Rattle.listings.proofs.Taking.{taken_as}
use Rattle.listings.proofs.list.write_listing.Goals as goal
use Rattle.listings.proofs.list.write_listing.Goals.{else-loop-listed-test, then-loop-listed-test+then-not-found}

pub loop-listed-init : goal.loop-listed-init
loop-listed-init c =
    let j = view c.args.lawful.now.job.now in
    let law = c.args.lawful.now.lawful in
    let ea = taken_as j.arrangement _ _ _ law.arrangement c.rows.ensures.value c.columns.ensures c.new.ensures in
    let er = taken_as j.room _ _ _ law.room c.rows-2.ensures.value c.columns-2.ensures c.new-2.ensures in
    written_none (rw c.is_ok-found.ensures.value (seek_at j law _ ea er c.is_strict.ensures _ _ c.seek.result _ _ refl c.requires c.seek.ensures.step))

pub returns-in_err-write_line : goal.returns-in_err-write_line
returns-in_err-write_line c =
    rw c.from_residual.ensures
    (written_unfit c.loop-listed.invariant c.if-not-found.false (omega arith)
    (rw (← c.rows-units.ensures.value) c.in_err-write_line.ensures))

pub loop-listed-preserved : goal.loop-listed-preserved
loop-listed-preserved c =
    let j = view c.args.lawful.now.job.now in
    let law = c.args.lawful.now.lawful in
    let g = c.loop-listed.invariant in
    let ea = taken_as j.arrangement _ _ _ law.arrangement c.rows.ensures.value c.columns.ensures c.new.ensures in
    let er = taken_as j.room _ _ _ law.room c.rows-2.ensures.value c.columns-2.ensures c.new-2.ensures in
    let found = c.if-not-found.false in
    let at = further_at j law _ ea er c.is_strict.ensures _ _ c.further.result _ _ g.stands.long c.loop-listed._listed (g.stands.listed found) (g.stands.last found) c.further.ensures.step in
    written_more g found
    (rw (← c.rows-units.ensures.value) c.in_ok-write_line.ensures.cases)
    (rw c.is_ok-found-in-loop-listed.ensures.value at)

pub returns : goal.returns
returns c =
    let full : c.loop-listed.found ≡ true → 20 ≤ c.loop-listed._listed =
    λ t. elim c.loop-listed-test.branch [
      | else-loop-listed-test w ↦ omega (arith, w.loop-listed-test.false)
      | then-loop-listed-test+then-not-found w ↦ absurd (both_ways _ w.if-not-found.true t)
    ] in
    written_all c.loop-listed.invariant (omega arith) full c.write_last.ensures
