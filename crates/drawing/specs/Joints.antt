-- The joints of a drawn graph. Assumes nothing.
use Rattle.std.specs.Prelude.{ℕ, Bool, not, ◌&&◌, ◌||◌, ◌==◌, nat_lt}

-- joining a and b, two different ones of n nodes, joins c to d
abbrev pub joins : ℕ → ℕ → ℕ → ℕ → ℕ → Bool
joins n a b c d = (nat_lt a n && (nat_lt b n && not (a == b))) && ((a == c && b == d) || (b == c && a == d))
