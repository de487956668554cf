-- The accepted strikes and frees since the latest start, and the pairs that it struck. Assumes nothing.
use Rattle.std.specs.Prelude.{ℕ, ◌+◌, List, [], ◌∷◌, length, Ok, Err, Result}
use Rattle.graphs.specs.Rows.{pairs}
use Rattle.tables.specs.Form.{Form}
use Rattle.saved.specs.declared.fault.PlanFault.{PlanFault}
use Rattle.saved.specs.Plan.{read_plan}
use Rattle.ledgers.specs.Calls.{Call, begin, «open», strike, free, fit, fit_further, seek, further, what_if, tally, save}
use Rattle.ledgers.specs.Ledger.{ledger, verdict, by_verdict}
use Rattle.ledgers.specs.Answered.{how_many}

pub record Counts : Type 0 where
  pub starts : ℕ
  pub strikes : ℕ
  pub frees : ℕ

abbrev pub counts : ℕ → ℕ → ℕ → Counts
counts z s f = record { starts = z; strikes = s; frees = f }

abbrev pub opened_counts : Counts → Result Form PlanFault → Counts
opened_counts k (Ok f) = counts (how_many (length f.rows) f.columns (pairs f.rows)) 0 0
opened_counts k (Err e) = k

abbrev pub count_on : Counts → Call → Counts
count_on k (begin m n) = counts 0 0 0
count_on k («open» bs) = opened_counts k (read_plan bs 0)
count_on k (strike u b) = counts k.starts (k.strikes + 1) k.frees
count_on k (free u b) = counts k.starts k.strikes (k.frees + 1)
count_on k (fit c) = k
count_on k (fit_further c) = k
count_on k (seek s out) = k
count_on k (further s out) = k
count_on k (what_if u b s) = k
count_on k tally = k
count_on k (save out) = k

abbrev pub counted : List Call → Counts
counted [] = counts 0 0 0
counted (c ∷ h) = by_verdict (verdict (ledger h) c) (count_on (counted h) c) (counted h)
