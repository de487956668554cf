-- The numbers of the generator. Assumes nothing.
use Rattle.std.specs.Prelude.{ℕ, ◌+◌, ◌*◌, ◌/◌, ◌%◌, ◌^◌}

-- the state behind one number
abbrev pub stepped : ℕ → ℕ
stepped state = (state * 6364136223846793005 % 2 ^ 64 + 1442695040888963407) % 2 ^ 64

-- the number, of 31 bits: the upper half, as the low bits of such a generator repeat early
abbrev pub drawn : ℕ → ℕ
drawn state = stepped state / 2 ^ 33
