-- The test by degrees passes on every pair of every placement. Assumes nothing.
use Rattle.std.specs.Prelude.{◌-◌, Bool, not, ◌||◌, nat_le, slice_index}
use Rattle.std.proofs.Common.{subst, inl, inr, arith}
use Rattle.std.proofs.lemmas.Bool.{cases_Bool, and_from, not_from_false, le-leb, or_right, or_left}
use Rattle.placements.specs.Placement.{Placement}
use Rattle.placements.proofs.Counting.{placement_degree, strict_degree}
use Rattle.filters.specs.Filter.{Lawful}
use Rattle.filters.proofs.Kept.{Spares, kept_lawful}
use Rattle.degree.specs.Degree.{degree_within, all_nodes, degree_test, degree_meaning}
use Rattle.degree.specs.Degrees.{degree_all}

degree_spares : Spares degree_test
degree_spares a r k w sa sr p u lu =
    let x = degree_all a u in
    let y = degree_all r (slice_index w u) in
    and_from (nat_le (degree_within a all_nodes u) (degree_within r all_nodes (slice_index w u)))
    (not k || nat_le (a.count - 1 - degree_within a all_nodes u) (r.count - 1 - degree_within r all_nodes (slice_index w u)))
    (le-leb _ _ (omega (arith, placement_degree a r k w sa p u lu)))
    (elim (cases_Bool k) [
      | inl e ↦ or_right (not k) _ (le-leb _ _ (omega (arith, strict_degree a r w sa sr (subst (λ (s : Bool). Placement a r s w) e p) u lu)))
      | inr e ↦ or_left (not k) _ (not_from_false k e)
    ])

pub degree_lawful : Lawful degree_meaning
degree_lawful = kept_lawful degree_test degree_spares
