-- The sources of a job's tables. Assumes nothing.
use Rattle.std.proofs.Common.{◌≡◌, ℕ, List, sym, ap, ◌∙◌, subst}
use Rattle.graphs.specs.Graph.{Graph}
use Rattle.graphs.specs.JointTable.{TableLawful, table_graph}
use Rattle.sources.specs.Taking.{Taken}
use Rattle.tables.specs.Form.{Form}
use Rattle.jobs.specs.Form.{JointsLawful}

-- a lawful table is taken as the graph that it is
pub taken_as : (f : Form) (rows : List ℕ) (columns : ℕ) (g : Graph) → JointsLawful f → rows ≡ f.rows → columns ≡ f.columns
    → Taken (TableLawful rows columns) (table_graph rows) g → g ≡ table_graph f.rows
taken_as f rows columns g l er ec t =
    t.accepted (subst (TableLawful rows) (sym ec) (subst (λ (rs : List ℕ). TableLawful rs f.columns) (sym er) l.joints)) ∙ ap table_graph er
