use Rattle.std.proofs.Common.{get_or, ◌∙◌, arith}
use Rattle.tables.proofs.Putting.{putting_zero, putting_some, putting_room, putting_done, word_laid}
use Rattle.tables.proofs.write.put_rows.Goals as goal
use Rattle.tables.proofs.write.put_rows.Goals.{then-row-ne0, else-row-ne0}

pub slice_bounds-copy_from_slice-end : goal.slice_bounds-copy_from_slice-end
slice_bounds-copy_from_slice-end c = putting_room c.loop-row.invariant c.loop-row-test.true c.if-row-ne0.true c.requires

pub loop-row-preserved : goal.loop-row-preserved
loop-row-preserved c =
    elim c.if-row-ne0.branch [
      | then-row-ne0 w ↦
          let room = putting_room c.loop-row.invariant c.loop-row-test.true w.if-row-ne0.true c.requires in
          let laid = word_laid c.loop-row.out c.loop-row.next _ (get_or c.args.rows.now c.loop-row.row-index 0) _ room (omega arith) (w.copy_from_slice.ensures.after ∙ w.to_le_bytes.ensures) in
          let out = w.out-is ∙ laid in
          simp (out, w.next-is) (putting_some c.loop-row.invariant c.loop-row-test.true w.if-row-ne0.true)
      | else-row-ne0 w ↦ simp (w.out-is, w.next-is) (putting_zero c.loop-row.invariant c.loop-row-test.true w.if-row-ne0.false)
    ]

pub returns : goal.returns
returns c = let d = putting_done c.loop-row.invariant c.loop-row-test.false in record { place = d.0; after = d.1 }
