use Rattle.std.proofs.Common.{length, sym, ap, subst, arith}
use Rattle.sources.proofs.Tables.{Kept, kept_lawful, kept_lone}
use Rattle.sources.proofs.table.JointTable.new.Goals as goal
use Rattle.sources.proofs.table.JointTable.new.Goals.{in-Ok, in-Err}

pub written_out-requires : goal.written_out-requires
written_out-requires c =
    elim c.match-look_over.branch [
      | in-Ok w ↦ let v = w.in-Ok.ensures in omega (arith, ap (λ r. length r.now) w.rows-is, v.square, v.few)
      | in-Err w ↦ omega (arith, ap (λ r. length r.now) w.rows-is)
    ]

pub invariant_of-result : goal.invariant_of-result
invariant_of-result c =
    let kept : Kept c.match-look_over.rows.now =
    elim c.match-look_over.branch [
      | in-Ok w ↦ subst (λ r. Kept r.now) (sym w.rows-is) (kept_lawful c.args.rows.now c.args.columns w.in-Ok.ensures)
      | in-Err w ↦ subst (λ r. Kept r.now) (sym w.rows-is) kept_lone
    ] in
    record { some = kept.some; few = kept.few; irreflexive = kept.irreflexive; «mutual» = kept.both; written = c.written_out.ensures }
