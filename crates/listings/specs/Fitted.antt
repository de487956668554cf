-- The ledger of a job's plan once it is opened and fitted. Assumes nothing.
use Rattle.std.specs.Prelude.{ℕ, ◌&&◌, List, length, Option, nat_lt}
use Rattle.graphs.specs.Rows.{pairs}
use Rattle.ledgers.specs.Ledger.{Ledger, fits}
use Rattle.jobs.specs.Form.{JobForm}
use Rattle.listings.specs.Suited.{cards_of}

-- the plan's own sizes and strikes, the pairs that suit, and the last answer where there is one
abbrev pub fitted_ledger : JobForm → Option (List ℕ) → Ledger
fitted_ledger j last = record {
  units = length j.struck.rows;
  bays = j.struck.columns;
  struck = pairs j.struck.rows;
  fitted = fits (λ u b. (nat_lt u (length j.struck.rows) && nat_lt b j.struck.columns) && (cards_of j).suits u b);
  last = last;
}
