-- The placements that a job asks for. Assumes nothing.
use Rattle.std.specs.Prelude.{ℕ, not, ◌&&◌, List, map}
use Rattle.graphs.specs.Graph.{Graph}
use Rattle.graphs.specs.JointTable.{table_graph}
use Rattle.graphs.specs.Rows.{Pairs, pairs}
use Rattle.placements.specs.Placement.{Placement, Within}
use Rattle.books.specs.declared.clearance.KindCard.{KindCard}
use Rattle.books.specs.declared.clearance.HeightCard.{HeightCard}
use Rattle.books.specs.Clearance.{figures_one, figures_two, clears}
use Rattle.books.specs.Fit.{Cards, handed}
use Rattle.jobs.specs.declared.head.Edition.{Edition}
use Rattle.jobs.specs.declared.head.Edition.TheVariants.{One, Two}
use Rattle.jobs.specs.Head.{is_strict}
use Rattle.jobs.specs.Form.{JobForm}

-- the figures of the clearance book, by edition
abbrev pub figures_of : Edition → List ℕ
figures_of One = figures_one
figures_of Two = figures_two

-- the cards that a job's numbers stand for
abbrev pub kind_card : ℕ → KindCard
kind_card kind = record { kind = kind }

abbrev pub height_card : ℕ → HeightCard
height_card height = record { height = height }

abbrev pub cards_of : JobForm → Cards
cards_of j = handed (clears (figures_of j.edition)) (map kind_card j.kinds) (map height_card j.heights)

-- the pairs that the book of the job's edition suits and the plan does not strike
abbrev pub allowed : JobForm → Pairs
allowed j u b = (cards_of j).suits u b && not (pairs j.struck.rows u b)

abbrev pub arrangement_of : JobForm → Graph
arrangement_of j = table_graph j.arrangement.rows

abbrev pub room_of : JobForm → Graph
room_of j = table_graph j.room.rows

-- a placement within those pairs
pub record Suited (j : JobForm) (w : List ℕ) : Type 0 where
  pub placed : Placement (arrangement_of j) (room_of j) (is_strict j.mode) w
  pub within : Within (allowed j) w
