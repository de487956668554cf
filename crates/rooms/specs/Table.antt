-- Small rooms worked through: lists of calls on a new plan with their answers. Assumes nothing.
use Rattle.std.specs.Prelude.{◌≡◌, ℕ, Bool, true, false, List, [], ◌∷◌, map, reverse}
use Rattle.graphs.specs.Graph.{Graph}
use Rattle.graphs.specs.JointTable.{table_graph}
use Rattle.books.specs.Fit.{Cards}
use Rattle.filters.specs.Filter.{Meaning}
use Rattle.filters.specs.Composed.{open_meaning}
use Rattle.degree.specs.Degree.{degree_meaning}
use Rattle.consistency.specs.Support.{support_meaning}
use Rattle.search.specs.Walk.{Setting, setting}
use Rattle.ledgers.specs.Calls.{Call, begin, strike, fit, seek, further, what_if, tally, done, number, found, none}
use Rattle.rooms.specs.Telling.{Told, told, answers}

-- ---- graphs, one row a node

abbrev pub lone : Graph
lone = table_graph (0 ∷ [])

abbrev pub two_joined : Graph
two_joined = table_graph (2 ∷ 1 ∷ [])

abbrev pub two_apart : Graph
two_apart = table_graph (0 ∷ 0 ∷ [])

-- 0 – 1 – 2
abbrev pub path_of_three : Graph
path_of_three = table_graph (2 ∷ 5 ∷ 2 ∷ [])

abbrev pub three_joined : Graph
three_joined = table_graph (6 ∷ 5 ∷ 3 ∷ [])

abbrev pub ring_of_four : Graph
ring_of_four = table_graph (10 ∷ 5 ∷ 10 ∷ 5 ∷ [])

-- ---- entries

-- all pairs of m units and n bays suit
abbrev pub all_suit : ℕ → ℕ → Cards
all_suit m n = record { for_units = m; for_bays = n; suits = λ u b. true }

-- the calls in the order in which they are made, each with its answer and its buffer after it
pub record Entry : Type 0 where
  pub calls : List Call
  pub given : List Told

abbrev pub entry : List Call → List Told → Entry
entry cs ts = record { calls = cs; given = ts }

-- a plan of m units and n bays with all pairs fitted, and then these calls
abbrev pub room : ℕ → ℕ → List Call → List Told → Entry
room m n cs ts = entry (begin m n ∷ fit (all_suit m n) ∷ cs) (told done [] ∷ told done [] ∷ ts)

-- buffers as they are handed over
abbrev pub two : List ℕ
two = 238 ∷ 238 ∷ []

abbrev pub three : List ℕ
three = 238 ∷ 238 ∷ 238 ∷ []

abbrev pub seeking : Graph → Graph → Bool → Meaning → List ℕ → Call
seeking a r strict f out = seek (setting a r strict f) out

abbrev pub going_on : Graph → Graph → List ℕ → Call
going_on a r out = further (setting a r false open_meaning) out

-- two joined units on a ring of four, leafed through from the first placement to the last, and twice past it
abbrev pub ring : Setting
ring = setting two_joined ring_of_four false open_meaning

abbrev pub leafing : Entry
leafing =
    room 2 4
    (seek ring two ∷ further ring two ∷ further ring two ∷ further ring two ∷ further ring two ∷ further ring two ∷ further ring two
    ∷ further ring two ∷ further ring two ∷ further ring two ∷ [])
    (told (found 2) (0 ∷ 1 ∷ []) ∷ told (found 2) (0 ∷ 3 ∷ []) ∷ told (found 3) (1 ∷ 0 ∷ []) ∷ told (found 2) (1 ∷ 2 ∷ [])
    ∷ told (found 3) (2 ∷ 1 ∷ []) ∷ told (found 2) (2 ∷ 3 ∷ []) ∷ told (found 3) (3 ∷ 0 ∷ []) ∷ told (found 2) (3 ∷ 2 ∷ [])
    ∷ told (none 1) two ∷ told (none 1) two ∷ [])

-- the same ring with the pair (0, 0) struck
abbrev pub struck : Entry
struck =
    room 2 4
    (strike 0 0 ∷ seek ring two ∷ tally ∷ what_if 0 0 ring ∷ [])
    (told done [] ∷ told (found 2) (1 ∷ 0 ∷ []) ∷ told (number 7) [] ∷ told (none 0) [] ∷ [])

abbrev pub table : List Entry
table =
    -- one unit, one bay
    room 1 1 (seeking lone lone false open_meaning (238 ∷ []) ∷ []) (told (found 1) (0 ∷ []) ∷ [])
    -- two joined units, two bays that are not joined
    ∷ room 2 2 (seeking two_joined two_apart false open_meaning two ∷ []) (told (none 2) two ∷ [])
    ∷ room 2 2 (seeking two_joined two_apart false degree_meaning two ∷ []) (told (none 0) two ∷ [])
    -- two units that are not joined, two joined bays
    ∷ room 2 2 (seeking two_apart two_joined false open_meaning two ∷ []) (told (found 2) (0 ∷ 1 ∷ []) ∷ [])
    ∷ room 2 2 (seeking two_apart two_joined true open_meaning two ∷ []) (told (none 2) two ∷ [])
    -- three units all joined, a ring of four bays
    ∷ room 3 4 (seeking three_joined ring_of_four false open_meaning three ∷ []) (told (none 12) three ∷ [])
    ∷ room 3 4 (seeking three_joined ring_of_four false support_meaning three ∷ []) (told (none 4) three ∷ [])
    -- units joined 0 – 1 – 2, three bays all joined
    ∷ room 3 3 (seeking path_of_three three_joined false open_meaning three ∷ []) (told (found 3) (0 ∷ 1 ∷ 2 ∷ []) ∷ [])
    ∷ room 3 3 (seeking path_of_three three_joined true open_meaning three ∷ []) (told (none 3) three ∷ [])
    ∷ leafing
    ∷ struck
    ∷ []

-- the definitions give each entry
abbrev pub TableHolds : Type 0
TableHolds = map (λ (e : Entry). reverse (answers (reverse e.calls))) table ≡ map (λ (e : Entry). e.given) table
