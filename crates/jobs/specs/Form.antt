-- What a job holds, when it is lawful, and its bytes. Assumes nothing.
use Rattle.std.specs.Prelude.{◌≡◌, ℕ, zero, suc, ◌^◌, ◌<◌, List, [], ◌∷◌, ◌++◌, length, take, drop, slice_index}
use Rattle.graphs.specs.JointTable.{TableLawful}
use Rattle.tables.specs.Bytes.{Bytes, bytes_of, from_bytes}
use Rattle.tables.specs.Form as table
use Rattle.tables.specs.Form.{Form}
use Rattle.tables.specs.Written.{table_bytes}
use Rattle.saved.specs.Plan.{PlanLawful, plan_bytes}
use Rattle.jobs.specs.declared.head.Mode.{Mode}
use Rattle.jobs.specs.declared.head.Edition.{Edition}
use Rattle.jobs.specs.declared.job.Job.{Job}
use Rattle.jobs.specs.Head.{mode_byte, edition_number}

-- the sort of use, the clearance book's edition, two joint tables, a kind a unit, a height a bay, and the struck pairs
pub record JobForm : Type 0 where
  pub mode : Mode
  pub edition : Edition
  pub arrangement : Form
  pub room : Form
  pub kinds : List ℕ
  pub heights : List ℕ
  pub struck : Form

-- a lawful table whose rows are lawful joints
pub record JointsLawful (f : Form) : Type 0 where
  pub table : table.Lawful f
  pub joints : TableLawful f.rows f.columns

-- as many kinds of one byte
pub record KindsLawful (units : ℕ) (kinds : List ℕ) : Type 0 where
  pub count : length kinds ≡ units
  pub bytes : Bytes kinds

-- as many heights of two bytes
pub record HeightsLawful (bays : ℕ) (heights : List ℕ) : Type 0 where
  pub count : length heights ≡ bays
  pub words : (b : ℕ) → slice_index heights b < 2 ^ 16

-- a plan of as many units and bays
pub record StruckLawful (units bays : ℕ) (f : Form) : Type 0 where
  pub plan : PlanLawful f
  pub units_same : length f.rows ≡ units
  pub bays_same : f.columns ≡ bays

pub record JobLawful (j : JobForm) : Type 0 where
  pub arrangement : JointsLawful j.arrangement
  pub room : JointsLawful j.room
  pub kinds : KindsLawful (length j.arrangement.rows) j.kinds
  pub heights : HeightsLawful (length j.room.rows) j.heights
  pub struck : StruckLawful (length j.arrangement.rows) (length j.room.rows) j.struck

-- two bytes a height
unfoldable pub heights_bytes : List ℕ → List ℕ
heights_bytes [] = []
heights_bytes (h ∷ hs) = bytes_of 2 h ++ heights_bytes hs

-- the heights that the first bytes write, two each
unfoldable pub heights_of : ℕ → List ℕ → List ℕ
heights_of zero bs = []
heights_of (suc n) bs = from_bytes (take 2 bs) ∷ heights_of n (drop 2 bs)

-- the parts one behind the other
abbrev pub head_bytes : JobForm → List ℕ
head_bytes j = (mode_byte j.mode ∷ []) ++ bytes_of 2 (edition_number j.edition)

abbrev pub job_bytes : JobForm → List ℕ
job_bytes j =
    head_bytes j
    ++ (table_bytes j.arrangement
    ++ (table_bytes j.room
    ++ ((j.kinds ++ heights_bytes j.heights)
    ++ plan_bytes j.struck)))

-- what the type holds: a kind for each row of the arrangement and a height for each row of the room
abbrev pub view : Job → JobForm
view j = record {
  mode = j.mode;
  edition = j.edition;
  arrangement = table.view j.arrangement;
  room = table.view j.room;
  kinds = take (length (table.view j.arrangement).rows) j.kinds;
  heights = take (length (table.view j.room).rows) j.heights;
  struck = table.view j.struck;
}
