-- Whether a table is a lawful table of joints, as a test that computes. Assumes nothing.
use Rattle.std.specs.Prelude.{ℕ, ◌^◌, Bool, cond, not, ◌&&◌, List, length, ◌==◌, nat_le, nat_lt, slice_index}
use Rattle.graphs.specs.Rows.{bit}
use Rattle.placements.specs.Tests.{each_below}
use Rattle.tables.specs.Form.{Form}

-- two answers are one
abbrev pub same : Bool → Bool → Bool
same x y = cond x y (not y)

-- row a holds no node at or past n, nor a itself, and b exactly where row b holds a
abbrev pub row_test : List ℕ → ℕ → ℕ → Bool
row_test rows n a =
    nat_lt (slice_index rows a) (2 ^ n)
    && (not (bit (slice_index rows a) a) && each_below n (λ b. same (bit (slice_index rows a) b) (bit (slice_index rows b) a)))

-- square, 1 to 64 nodes, and each row passes
abbrev pub joint_test : Form → Bool
joint_test f =
    (length f.rows == f.columns)
    && ((nat_le 1 f.columns && nat_le f.columns 64) && each_below f.columns (row_test f.rows f.columns))
