use Rattle.std.proofs.Common.{ℕ, ◌∙◌, List, ◌∷◌, length, Ok, Err, subst, arith}
use Rattle.tables.specs.Bytes.{bytes_of}
use Rattle.text.proofs.Lay.{length_lay}
use Rattle.tables.specs.declared.fault.SaveFault.TheVariants.{Short}
use Rattle.tables.specs.Form.{view}
use Rattle.tables.specs.Saved.{Saved}
use Rattle.tables.specs.Written.{table_bytes}
use Rattle.tables.proofs.Putting.{rows_count, head_laid}
use Rattle.tables.proofs.Saving.{saved_short, saved_whole, saved_back}
use Rattle.tables.proofs.Tables.{table_exact, table_length, view_lawful}
use Rattle.tables.proofs.write.write_table.Goals as goal

pub returns-then-out-rows_len : goal.returns-then-out-rows_len
returns-then-out-rows_len c =
    record {
      saved = subst (λ (rows : List ℕ). Saved (table_bytes (record { columns = c.args.table.now.columns; rows = rows })) c.args.out.now c.args.out.now (Err Short)) c.rows-rows.ensures.value
          (saved_short (record { columns = c.args.table.now.columns; rows = c.rows-rows.result.now }) c.args.out.now (omega (arith, c.rows_len.ensures.value, rows_count c.rows-rows.result.now)));
      back = tt;
      size = table_length (view c.args.table.now);
    }

pub put_rows-requires : goal.put_rows-requires
put_rows-requires c =
    let laid = head_laid c.args.out.now (length c.rows-rows.result.now) c.args.table.now.columns c.map_of.result _ (omega arith) (c.copy_from_slice.ensures.after ∙ c.to_le_bytes.ensures) in
    rw laid (omega (arith, c.rows_len.ensures.value, rows_count c.rows-rows.result.now, length_lay c.args.out.now 0 (length c.rows-rows.result.now ∷ (c.args.table.now.columns ∷ bytes_of 8 c.map_of.result))))

pub returns : goal.returns
returns c =
    let laid = head_laid c.args.out.now (length c.rows-rows.result.now) c.args.table.now.columns c.map_of.result _ (omega arith) (c.copy_from_slice.ensures.after ∙ c.to_le_bytes.ensures) in
    let done : Saved (table_bytes (view c.args.table.now)) c.args.out.now c.put_rows.new.out (Ok c.put_rows.result) =
    subst (λ (rows : List ℕ). Saved (table_bytes (record { columns = c.args.table.now.columns; rows = rows })) c.args.out.now c.put_rows.new.out (Ok c.put_rows.result)) c.rows-rows.ensures.value
    (saved_whole (record { columns = c.args.table.now.columns; rows = c.rows-rows.result.now }) c.args.out.now _ _ _ (omega (arith, c.rows_len.ensures.value, rows_count c.rows-rows.result.now)) (rw c.map_of.ensures at laid) c.put_rows.ensures.after c.put_rows.ensures.place) in
    record {
      saved = done;
      back = saved_back table_bytes table_exact tt (view c.args.table.now) (view_lawful c.args.table.now) c.args.out.now c.put_rows.new.out (Ok c.put_rows.result) done;
      size = table_length (view c.args.table.now);
    }
