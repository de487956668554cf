use Rattle.std.proofs.Common.{◌≡◌, ℕ, true, false, List, Ok, Err, Result, MatchResult, sym, arith, rules, subst, inl, inr}
use Rattle.std.proofs.lemmas.Result.{err_from_is_err_and}
use Rattle.std.proofs.lemmas.Bool.{cases_Bool}
use Rattle.graphs.specs.JointTable.{TableLawful}
use Rattle.std.specs.Result.{IsErrAnd}
use Rattle.sources.specs.declared.fault.JointFault.{JointFault}
use Rattle.jobs.specs.declared.fault.JobFault.{JobFault}
use Rattle.sources.specs.Faults.{fault_at, LookedOver}
use Rattle.tables.specs.Form.{Form, view}
use Rattle.tables.specs.Parts.{inside}
use Rattle.tables.specs.Read.{read_table}
use Rattle.jobs.specs.declared.fault.JobFault.TheVariants as J
use Rattle.jobs.specs.Joints.{joint_test}
use Rattle.jobs.proofs.Joints.{joint_decides}
use Rattle.jobs.proofs.Reading.{checked_fails, checked_not, checked_done, inside_fails, inside_done}
use Rattle.jobs.proofs.read.read_joints.Goals as goal

pub returns-in_err-table : goal.returns-in_err-table
returns-in_err-table c =
    let p = err_from_is_err_and c.from_residual.result c.from_residual.ensures.1 in
    record {
      value = rw (p.1, p.2)
          (sym (checked_fails (inside read_table J.Table) c.args.input.now c.args.at joint_test (λ at. J.Joints (fault_at at))
          (inside_fails read_table c.args.input.now c.args.at J.Table (sym c.in_err-table.ensures.value))));
      within = rw p.1 tt;
    }

-- what the look-over said of the table's rows and columns, as the test of what it holds
module _ (f : Form) (rows : List ℕ) (columns : ℕ) (r : rows ≡ f.rows) (n : columns ≡ f.columns) where
  passes : TableLawful rows columns → joint_test f ≡ true
  passes l = (joint_decides f).1 (subst (TableLawful f.rows) n (subst (λ (rs : List ℕ). TableLawful rs columns) r l))

  fails : (TableLawful rows columns → ⊥) → joint_test f ≡ false
  fails not_so =
      elim (cases_Bool (joint_test f)) [
        | inl t ↦ absurd (not_so (subst (TableLawful rows) (sym n) (subst (λ (rs : List ℕ). TableLawful rs f.columns) (sym r) ((joint_decides f).0 t))))
        | inr e ↦ e
      ]

-- what the look-over said, by what became of its answer
module _ (P : Type 0) (Post : JointFault → JobFault → Type 0) where
  over_ok : (r : Result (Unit {0}) JointFault) (s : Result (Unit {0}) JobFault) → LookedOver r P → MatchResult r (λ x. s ≡ Ok x) (λ e. IsErrAnd s (Post e)) → s ≡ Ok tt → P
  over_ok (Ok x) s l m h = l
  over_ok (Err e) (Ok x) l m h = absurd m
  over_ok (Err e) (Err d) l m h = let z : ◌≡◌ {A = ℕ} 0 1 = cc in absurd (omega arith)

  over_err : (r : Result (Unit {0}) JointFault) (s : Result (Unit {0}) JobFault) (d : JobFault) → LookedOver r P → MatchResult r (λ x. s ≡ Ok x) (λ e. IsErrAnd s (Post e)) → s ≡ Err d → P → ⊥
  over_err (Err e) s d l m h = l.0
  over_err (Ok x) s d l m h = let z : ◌≡◌ {A = ℕ} 0 1 = cc in absurd (omega arith)

pub returns-in_err-map_err : goal.returns-in_err-map_err
returns-in_err-map_err c =
    let d : c.in_err-map_err.field-0.0 ≡ J.Joints (fault_at c.args.at) = search rules in
    let p = err_from_is_err_and c.from_residual-in_err-map_err.result c.from_residual-in_err-map_err.ensures.1 in
    record {
      value = rw (p.1, p.2, d)
          (sym (checked_not (inside read_table J.Table) c.args.input.now c.args.at joint_test (λ at. J.Joints (fault_at at))
          (inside_done read_table c.args.input.now c.args.at J.Table (sym c.in_ok-table.ensures.value))
          (fails (view c.in_ok-table.table) c.rows.result.now c.columns.result c.rows.ensures.value c.columns.ensures (over_err _ _ _ _ _ c.look_over.ensures c.map_err.ensures.cases c.in_err-map_err.was))));
      within = rw p.1 tt;
    }

pub returns : goal.returns
returns c =
    record {
      value = sym (checked_done (inside read_table J.Table) c.args.input.now c.args.at joint_test (λ at. J.Joints (fault_at at))
          (inside_done read_table c.args.input.now c.args.at J.Table (sym c.in_ok-table.ensures.value))
          (passes (view c.in_ok-table.table) c.rows.result.now c.columns.result c.rows.ensures.value c.columns.ensures (over_ok _ _ _ _ c.look_over.ensures c.map_err.ensures.cases c.in_ok-map_err.was)));
      within = c.in_ok-table.ensures.within;
    }
