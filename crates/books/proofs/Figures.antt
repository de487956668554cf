-- The figure that stands at a kind's place. Assumes nothing.
use Rattle.std.proofs.Common.{◌≡◌, ℕ, zero, suc, ◌<◌, ◌≤◌, List, [], ◌∷◌, length, get_or, Some, None, Option, sym, refl, ap, arith, Bor}
use Rattle.std.specs.Option.{option_map}
use Rattle.std.specs.Slice.{IsGetResult}
use Rattle.books.specs.Clearance.{figure_of}

figure_at : (figures : List ℕ) (kind f : ℕ) → kind < length figures → f ≡ get_or figures kind f → figure_of figures kind ≡ Some f
figure_at [] kind f lt e = absurd (omega arith)
figure_at (x ∷ xs) zero f lt e = ap Some (sym e)
figure_at (x ∷ xs) (suc kind) f lt e = figure_at xs kind f (omega arith) e

figure_past : (figures : List ℕ) (kind : ℕ) → length figures ≤ kind → figure_of figures kind ≡ None
figure_past [] kind le = refl
figure_past (x ∷ xs) zero le = absurd (omega arith)
figure_past (x ∷ xs) (suc kind) le = figure_past xs kind (omega arith)

-- what lends the figure at a place lends the kind's figure
pub figure_lent : (figures : List ℕ) (kind : ℕ) (lent : Option (Bor ℕ)) → IsGetResult figures kind kind lent → option_map (λ x. x.now) lent ≡ figure_of figures kind
figure_lent figures kind None it = sym (figure_past figures kind it.3)
figure_lent figures kind (Some x) it = sym (figure_at figures kind x.now it.3.0 it.1)
