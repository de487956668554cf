-- A law of truth values that the library lacks. Assumes nothing.
use Rattle.std.proofs.Common.{◌≡◌, Bool, true, false, sym, refl}

-- two tests that imply each other are one
pub bool_ext : (s t : Bool) → (s ≡ true → t ≡ true) → (t ≡ true → s ≡ true) → s ≡ t
bool_ext true t f g = sym (f refl)
bool_ext false true f g = g refl
bool_ext false false f g = refl
