-- A wall's columns are its rows, and its rows written out. Assumes nothing.
use Rattle.std.proofs.Common.{◌≡◌, ℕ, ◌*◌, ◌<◌, ◌≤◌, Bool, true, false, ◌&&◌, ltb, sym, refl, ap, ◌∙◌, arith}
use mathlib.Core.Path.{fun_ext}
use Rattle.std.proofs.lemmas.Bool.{and_right, lt-ltb}
use Rattle.graphs.specs.Rows.{row_of}
use Rattle.graphs.specs.WallGrid.{wall_joined}
use Rattle.graphs.proofs.Bits.{bit_none}
use Rattle.graphs.proofs.Rows.{row_is}
use Rattle.graphs.proofs.Walls.{wall_sym, wall_out, le_wall}

pub wall_column : (w n b : ℕ) → row_of n (wall_joined w n b) ≡ row_of n (λ a. wall_joined w n a b)
wall_column w n b = ap (λ (p : ℕ → Bool). row_of n p) (fun_ext (λ a. wall_sym w n b a))

-- a node past the count has no neighbours
pub past_count : (w n a : ℕ) → n ≤ a → 0 ≡ row_of n (wall_joined w n a)
past_count w n a le = row_is n 0 (wall_joined w n a) (λ k. bit_none k ∙ sym (and_right (ltb k n) (wall_joined w n a k) (wall_out w n a k le)))

-- a lawful wall has at most 64 columns
pub narrow : (w h : ℕ) → 1 ≤ h → w * h ≤ 64 → w ≤ 64
narrow w h high few = omega (arith, le_wall w h high)

-- a node that is wanted only where it is one of the 64
pub within : (w t : Bool) (b : ℕ) → (w ≡ true → b < 64) → (w && (ltb b 64 && t)) ≡ (w && t)
within true t b l = ap (λ (s : Bool). s && t) (lt-ltb b 64 (l refl))
within false t b l = refl
