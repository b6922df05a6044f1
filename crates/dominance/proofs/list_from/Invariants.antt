-- `dominance::list_from` meets its contract. The invariant: just those states so far that are reached are listed. Assumes nothing.
use Rattle.std.proofs.Common.{◌≡◌, ◌≤◌, length}
use Rattle.rows.specs.Reach.{ReachesIn}
use Rattle.dominance.proofs.list_from.Given as goal

abbrev pub invariant-loop-x : goal.invariant-loop-x
invariant-loop-x l = (l.x ≤ l.to) × (length l.list ≡ length l.initial.list) × ReachesIn l.x l.prices l.list l.n
