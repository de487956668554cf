-- The bays that agree with one bay, by how the two units are joined. Assumes nothing.
use Rattle.std.specs.Prelude.{ℕ, Bool, cond}
use Rattle.search.specs.declared.Masks.{Masks}

-- the row for a unit that the settled unit is joined to (out) or not, and that is joined to it (back) or not
abbrev pub picked : Masks → Bool → Bool → ℕ
picked masks out back = cond out (cond back masks.both masks.out) (cond back masks.back masks.apart)
