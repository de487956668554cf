use Rattle.std.proofs.Common.{◌≡◌, ℕ, ◌<◌, Bool}
use Rattle.graphs.proofs.Rows.{Upto}
use Rattle.graphs.proofs.row_where.Given as goal

abbrev pub invariant-loop-b : goal.invariant-loop-b
invariant-loop-b g l = (p : ℕ → Bool) → ((b : ℕ) (t : Bool) → b < l.count → goal.P-post g l.passes b t → t ≡ p b) → Upto l.b p l.row
