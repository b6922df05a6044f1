-- `dominance::place_from` meets its contract. The invariant: no price so far is higher. Assumes nothing.
use Rattle.std.proofs.Common.{◌≤◌}
use Rattle.rows.specs.Row.{NotAbove}
use Rattle.dominance.proofs.place_from.Given as goal

abbrev pub invariant-loop-k : goal.invariant-loop-k
invariant-loop-k l = (l.k ≤ l.candidate.states) × NotAbove l.row l.candidate.prices.now l.k
