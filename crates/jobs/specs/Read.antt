-- What reading a job answers, for every input. Assumes nothing.
use Rattle.std.specs.Prelude.{ℕ, ◌+◌, ◌*◌, Bool, ◌&&◌, List, length, take, Ok, Err, Result, ◌==◌, slice_index}
use Rattle.sources.specs.Faults.{fault_at}
use Rattle.tables.specs.Bytes.{from_bytes}
use Rattle.tables.specs.Form.{Form}
use Rattle.tables.specs.Parts.{and_then, Reader, some_bytes, after, checked, inside, turned}
use Rattle.tables.specs.Read.{read_table}
use Rattle.saved.specs.Plan.{plan_part}
use Rattle.jobs.specs.declared.fault.JobFault.{JobFault}
use Rattle.jobs.specs.declared.fault.JobFault.TheVariants as J
use Rattle.jobs.specs.declared.head.Mode.{Mode}
use Rattle.jobs.specs.declared.head.Edition.{Edition}
use Rattle.jobs.specs.declared.job.Job.{Job}
use Rattle.jobs.specs.Joints.{joint_test}
use Rattle.jobs.specs.Head.{known_mode, mode_of, known_edition, edition_of}
use Rattle.jobs.specs.Form.{JobForm, heights_of, view}

-- one byte for the sort of use
abbrev pub mode_part : Reader Mode JobFault
mode_part = turned (checked (some_bytes 1 J.Ended) (λ bs. known_mode (slice_index bs 0)) J.Unknown) (λ bs. mode_of (slice_index bs 0))

-- two bytes for the edition, told of the first
abbrev pub edition_part : Reader Edition JobFault
edition_part = turned (checked (some_bytes 2 J.Ended) (λ bs. known_edition (from_bytes bs)) J.Unknown) (λ bs. edition_of (from_bytes bs))

abbrev pub head_part : Reader (Mode × Edition) JobFault
head_part = after mode_part (λ _. edition_part)

-- a table, whose fault travels whole inside the job's, looked over at once; ill joints are told of the table's place
abbrev pub joints_part : Reader Form JobFault
joints_part = checked (inside read_table J.Table) joint_test (λ at. J.Joints (fault_at at))

-- a byte a unit
abbrev pub kinds_part : ℕ → Reader (List ℕ) JobFault
kinds_part units = some_bytes units J.Ended

-- two bytes a bay
abbrev pub heights_part : ℕ → Reader (List ℕ) JobFault
heights_part bays = turned (some_bytes (2 * bays) J.Ended) (heights_of bays)

abbrev pub cards_part : ℕ → ℕ → Reader (List ℕ × List ℕ) JobFault
cards_part units bays = after (kinds_part units) (λ _. heights_part bays)

abbrev pub same_sizes : ℕ → ℕ → Form → Bool
same_sizes units bays f = length f.rows == units && f.columns == bays

-- a plan to the end, whose fault travels whole inside the job's, and then its sizes, told of its table, which stands one past
-- the form byte
abbrev pub struck_part : ℕ → ℕ → Reader Form JobFault
struck_part units bays = checked (inside plan_part J.Plan) (same_sizes units bays) (λ at. J.Unequal (at + 1))

-- what stands behind the room: cards, and the plan
abbrev pub rest_part : (arrangement room : Form) → Reader ((List ℕ × List ℕ) × Form) JobFault
rest_part arrangement room =
    after (cards_part (length arrangement.rows) (length room.rows)) (λ _. struck_part (length arrangement.rows) (length room.rows))

-- what stands behind the arrangement: the room, and the rest
abbrev pub room_part : (arrangement : Form) → Reader (Form × ((List ℕ × List ℕ) × Form)) JobFault
room_part arrangement = after joints_part (rest_part arrangement)

-- all parts of a job, as they stand one behind the other
abbrev pub Parts : Type 0
Parts = (Mode × Edition) × (Form × (Form × ((List ℕ × List ℕ) × Form)))

abbrev pub parts : Reader Parts JobFault
parts = after head_part (λ _. after joints_part room_part)

abbrev pub formed : Parts → JobForm
formed p = record {
  mode = p.0.0;
  edition = p.0.1;
  arrangement = p.1.0;
  room = p.1.1.0;
  kinds = p.1.1.1.0.0;
  heights = p.1.1.1.0.1;
  struck = p.1.1.1.1;
}

abbrev pub job_part : Reader JobForm JobFault
job_part = turned parts formed

-- a job from the first byte of the input to the last
abbrev pub read_job : List ℕ → Result JobForm JobFault
read_job input = and_then (job_part input 0) (λ p. Ok p.0)

-- what was read, by what the job holds
abbrev pub seen : {E : Type 0} → Result Job E → Result JobForm E
seen (Ok j) = Ok (view j)
seen (Err e) = Err e

-- what was read, with the place behind it
abbrev pub up_to : {X E : Type 0} → ℕ → Result X E → Result (X × ℕ) E
up_to next (Ok x) = Ok (x, next)
up_to next (Err e) = Err e

-- the first n numbers of what was read, with the place behind them
abbrev pub front : {E : Type 0} → (n next : ℕ) → Result (List ℕ) E → Result (List ℕ × ℕ) E
front n next (Ok xs) = Ok (take n xs, next)
front n next (Err e) = Err e
