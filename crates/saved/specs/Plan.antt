-- The saved form of a plan, and what reading it answers, for every input. Assumes nothing.
use Rattle.std.specs.Prelude.{ℕ, ◌≤◌, Bool, ◌&&◌, List, ◌∷◌, length, Ok, Err, Result, nat_eq, nat_le, slice_index}
use Rattle.tables.specs.declared.table.Table.{Table}
use Rattle.tables.specs.Form.{Form, Lawful, view}
use Rattle.tables.specs.Parts.{and_then, Reader, some_bytes, after, checked, alone, inside, turned}
use Rattle.tables.specs.Read.{read_table}
use Rattle.tables.specs.Written.{table_bytes}
use Rattle.saved.specs.declared.fault.PlanFault.{PlanFault}
use Rattle.saved.specs.declared.fault.PlanFault.TheVariants as P

-- a table of struck pairs, one row a unit and one column a bay: 1 to 24 units and 1 to 64 bays
pub record PlanLawful (f : Form) : Type 0 where
  pub table : Lawful f
  pub some_units : 1 ≤ length f.rows
  pub few_units : length f.rows ≤ 24
  pub some_bays : 1 ≤ f.columns

-- byte 2, then the table of struck pairs
abbrev pub plan_bytes : Form → List ℕ
plan_bytes f = 2 ∷ table_bytes f

abbrev pub sized : Form → Bool
sized f = (nat_le 1 (length f.rows) && nat_le (length f.rows) 24) && (nat_le 1 f.columns && nat_le f.columns 64)

-- the form byte
abbrev pub form_part : Reader (List ℕ) PlanFault
form_part = checked (some_bytes 1 P.Ended) (λ bs. nat_eq (slice_index bs 0) 2) P.Form

-- the table, whose fault travels whole inside the plan's, and then its sizes, told of the table's place
abbrev pub struck_part : Reader Form PlanFault
struck_part = checked (inside read_table P.Table) sized P.Sizes

-- the one behind the other, and nothing behind them
abbrev pub plan_part : Reader Form PlanFault
plan_part = turned (alone (after form_part (λ _. struck_part)) P.Left) (λ p. p.1)

-- a plan from the place `at` to the end of the input
abbrev pub read_plan : (input : List ℕ) (at : ℕ) → Result Form PlanFault
read_plan input at = and_then (plan_part input at) (λ p. Ok p.0)

-- what was read, by what the table holds
abbrev pub seen : {E : Type 0} → Result Table E → Result Form E
seen (Ok t) = Ok (view t)
seen (Err e) = Err e
