-- What the answers of a plan's calls say. Assumes nothing.
use Rattle.std.specs.Prelude.{◌≡◌, ℕ, Bool, not, ◌||◌, ◌==◌, Ok, Err, Result}
use Rattle.refusals.specs.declared.Reason.{Reason}
use Rattle.refusals.specs.declared.Reason.TheVariants as R
use Rattle.graphs.specs.Graph.{Graph}
use Rattle.ledgers.specs.Calls.{Answer, done, number, found, yes, none, refused, rule, ill}
use Rattle.ledgers.specs.Ledger.{Verdict, declined}
use Rattle.tables.specs.declared.fault.SaveFault.{SaveFault}
use Rattle.tables.specs.declared.fault.SaveFault.TheVariants.{Short}
use Rattle.saved.specs.declared.fault.PlanFault.{PlanFault}
use Rattle.saved.specs.Told.{plan_told}
use Rattle.plans.specs.declared.refusal.Refusal.{Refusal}
use Rattle.plans.specs.declared.refusal.Refusal.TheVariants.{Sizes, OutOfRange, Standing, CardCount, NoFit, OtherCount, NoLastAnswer, ShortBuffer, NoPlacement, NoRoom}

abbrev pub reason_of : Refusal → Reason
reason_of Sizes = R.Sizes
reason_of OutOfRange = R.OutOfRange
reason_of Standing = R.Standing
reason_of CardCount = R.CardCount
reason_of NoFit = R.NoFit
reason_of OtherCount = R.OtherCount
reason_of NoLastAnswer = R.NoLastAnswer
reason_of ShortBuffer = R.ShortBuffer
reason_of (NoPlacement t) = R.NoPlacement
reason_of NoRoom = R.NoRoom

-- a buffer too short for the saved form has no room
abbrev pub save_refusal : SaveFault → Refusal
save_refusal Short = NoRoom

-- a search without a find tells its tries, and any other refusal its reason
abbrev pub declining : Refusal → Answer
declining (NoPlacement t) = none t
declining e = refused (rule (reason_of e))

-- what each family of calls answers
abbrev pub doing : Result (Unit {0}) Refusal → Answer
doing (Ok x) = done
doing (Err e) = declining e

abbrev pub finding : Result ℕ Refusal → Answer
finding (Ok t) = found t
finding (Err e) = declining e

abbrev pub asking : Result ℕ Refusal → Answer
asking (Ok t) = yes t
asking (Err e) = declining e

abbrev pub saving : Result ℕ Refusal → Answer
saving (Ok k) = number k
saving (Err e) = declining e

abbrev pub opening : Result (Unit {0}) PlanFault → Answer
opening (Ok x) = done
opening (Err e) = refused (ill (plan_told e))

-- The tests t that a call begins with: passed, they leave the verdict to the tests after them; failed, they decline with e.
abbrev pub Tests : {X : Type 0} → (Verdict → Verdict) → Result X Refusal → Type 0
Tests t (Ok x) = (v : Verdict) → t v ≡ v
Tests t (Err e) = ((v : Verdict) → t v ≡ declined (rule (reason_of e))) × (declining e ≡ refused (rule (reason_of e)))

-- an arrangement of other than m units, or a room of other than n bays
abbrev pub counts_other : Graph → Graph → ℕ → ℕ → Bool
counts_other a r m n = not (a.count == m) || not (r.count == n)
