-- The services book: every service that a unit needs, the bay has. Assumes nothing.
use Rattle.std.specs.Prelude.{ℕ, zero, suc, Bool, true, not, ◌&&◌, ◌||◌}
use Rattle.graphs.specs.Rows.{bit}
use Rattle.books.specs.declared.services.NeedsCard.{NeedsCard}
use Rattle.books.specs.declared.services.ServicesCard.{ServicesCard}

-- the first n services, a bit each, that are needed are there
abbrev pub served : ℕ → ℕ → ℕ → Bool
served zero needs services = true
served (suc n) needs services = (not (bit needs n) || bit services n) && served n needs services

-- a bay suits when every needed bit is set; all eight bits count, of which 0 to 4 are water, drain, gas, power, extract
abbrev pub serves : NeedsCard → ServicesCard → Bool
serves unit bay = served 8 unit.needs bay.services
