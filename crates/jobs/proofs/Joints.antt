-- The test of joints says what the law of joint tables says. Assumes nothing.
use Rattle.std.proofs.Common.{◌≡◌, ℕ, ◌^◌, ◌≤◌, Bool, true, false, not, ◌&&◌, eqb, ltb, leb, List, length, get_or, Decides, sym, refl}
use Rattle.std.proofs.lemmas.Bool.{leb-true, le-leb}
use Rattle.std.proofs.lemmas.Bool.Decides.{Decides-and, Decides-eqb, Decides-like, Decides-ltb}
use Rattle.graphs.specs.Rows.{bit}
use Rattle.graphs.specs.JointTable.{RowLawful, TableLawful}
use Rattle.placements.specs.Tests.{each_below}
use Rattle.placements.proofs.Deciding.{each_decides}
use Rattle.tables.specs.Form.{Form}
use Rattle.jobs.specs.Joints.{same, row_test, joint_test}

decides_same : (x y : Bool) → Decides (same x y) (x ≡ y)
decides_same true true = (λ _. refl, λ _. refl)
decides_same true false = (λ h. sym h, λ h. sym h)
decides_same false true = (λ h. h, λ h. h)
decides_same false false = (λ _. refl, λ _. refl)

decides_false : (x : Bool) → Decides (not x) (x ≡ false)
decides_false true = (λ h. sym h, λ h. sym h)
decides_false false = (λ _. refl, λ _. refl)

decides_leb : (a b : ℕ) → Decides (leb a b) (a ≤ b)
decides_leb a b = (leb-true a b, le-leb a b)

module _ (rows : List ℕ) (n : ℕ) where
  row_decides : (a : ℕ) → Decides (row_test rows n a) (RowLawful rows n a)
  row_decides a =
      Decides-like (row_test rows n a)
      (λ h. record { inside = h.0; irreflexive = h.1.0; symmetric = h.1.1 })
      (λ l. (l.inside, (l.irreflexive, l.symmetric)))
      (Decides-and (ltb (get_or rows a 0) (2 ^ n)) (not (bit (get_or rows a 0) a) && each_below n (λ b. same (bit (get_or rows a 0) b) (bit (get_or rows b 0) a)))
      (Decides-ltb (get_or rows a 0) (2 ^ n))
      (Decides-and (not (bit (get_or rows a 0) a)) (each_below n (λ b. same (bit (get_or rows a 0) b) (bit (get_or rows b 0) a)))
      (decides_false (bit (get_or rows a 0) a))
      (each_decides (λ b. same (bit (get_or rows a 0) b) (bit (get_or rows b 0) a)) (λ b. bit (get_or rows a 0) b ≡ bit (get_or rows b 0) a) (λ b. decides_same (bit (get_or rows a 0) b) (bit (get_or rows b 0) a)) n)))

pub joint_decides : (f : Form) → Decides (joint_test f) (TableLawful f.rows f.columns)
joint_decides f =
    Decides-like (joint_test f)
    (λ h. record { square = h.0; some = h.1.0.0; few = h.1.0.1; each = h.1.1 })
    (λ l. (l.square, ((l.some, l.few), l.each)))
    (Decides-and (eqb (length f.rows) f.columns) ((leb 1 f.columns && leb f.columns 64) && each_below f.columns (row_test f.rows f.columns))
    (Decides-eqb (length f.rows) f.columns)
    (Decides-and (leb 1 f.columns && leb f.columns 64) (each_below f.columns (row_test f.rows f.columns))
    (Decides-and (leb 1 f.columns) (leb f.columns 64) (decides_leb 1 f.columns) (decides_leb f.columns 64))
    (each_decides (row_test f.rows f.columns) (RowLawful f.rows f.columns) (row_decides f.rows f.columns) f.columns)))
