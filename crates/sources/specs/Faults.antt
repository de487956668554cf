-- What a look-over of a source answers, and what its fault tells. Assumes nothing.
use Rattle.std.specs.Prelude.{◌≡◌, ℕ, Result, MatchResult}
use Rattle.refusals.specs.declared.Reason.TheVariants.{IllJoints}
use Rattle.refusals.specs.declared.Layer.TheVariants.{Plan}
use Rattle.refusals.specs.declared.Told.{Told}
use Rattle.refusals.specs.Numbers.{told}
use Rattle.sources.specs.declared.fault.JointFault.{JointFault}

-- the fault of a source that stands at this place
abbrev pub fault_at : ℕ → JointFault
fault_at p = record { place = p }

-- ill joints, found by the second layer, at the fault's place
abbrev pub joint_told : JointFault → Told
joint_told fault = told IllJoints Plan fault.place

-- the answer of a direct look-over for the law P: accepted only where P holds, and declined only where it does not, with
-- place 0
abbrev pub LookedOver : Result (Unit {0}) JointFault → Type 0 → Type 0
LookedOver r P = MatchResult r (λ _. P) (λ e. (P → ⊥) × (e ≡ fault_at 0))
