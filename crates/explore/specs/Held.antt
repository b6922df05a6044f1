-- What the search's end says of the search that the lent table holds.
pub mod Rounds
pub mod Start
use Rattle.std.specs.Prelude.{List, ℕ}
use Rattle.search.specs.Explore.{Reason, finished, tableFull, budgetSpent, Stopped}
use Rattle.offers.specs.Held.{search_of}
use Rattle.explore.specs.declared.Stop.{Stop}
use Rattle.explore.specs.declared.Why.{Why}
use Rattle.explore.specs.declared.Why.TheVariants.{Finished, TableFull, BudgetSpent}

-- why the search stops
abbrev pub reason_of : Why → Reason
reason_of Finished = finished
reason_of TableFull = tableFull
reason_of BudgetSpent = budgetSpent

-- that and with what
abbrev pub stopped_of : ℕ → List ℕ → List ℕ → Stop → Stopped
stopped_of S T O r = record { reason = reason_of r.why; search = search_of S T O r.run }
