-- When two pairs of a unit and a bay agree. Assumes nothing.
use Rattle.std.specs.Prelude.{ℕ, Bool, cond, not, ◌&&◌, ◌==◌}
use Rattle.graphs.specs.Graph.{Graph}

-- one direction of a joint: where the units are joined the bays must be, and in strict use only there
abbrev pub half : Bool → Bool → Bool → Bool
half strict units bays = cond units bays (not (strict && bays))

-- the bays b and c suit two different units, the first joined to the second (out) or not, the second to the first (back) or not
abbrev pub agrees_if : Graph → Bool → Bool → Bool → ℕ → ℕ → Bool
agrees_if r out back strict b c = not (b == c) && (half strict out (r.joined b c) && half strict back (r.joined c b))

-- the pairs (u, b) and (v, c) of two different units agree
abbrev pub agrees : Graph → Graph → Bool → ℕ → ℕ → ℕ → ℕ → Bool
agrees a r strict u b v c = agrees_if r (a.joined u v) (a.joined v u) strict b c
