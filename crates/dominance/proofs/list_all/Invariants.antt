-- `dominance::list_all` meets its contract. The invariant: those states so far that are reached are listed. Assumes nothing.
use Rattle.std.proofs.Common.{◌≡◌, ◌-◌, ◌≤◌, length}
use Rattle.rows.specs.Reach.{ReachesIn}
use Rattle.dominance.proofs.list_all.Given as goal

abbrev pub invariant-loop-x : goal.invariant-loop-x
invariant-loop-x l = (l.x ≤ l.states) × (length l.list ≡ length l.initial.list) × ReachesIn l.x l.prices l.list l.many

abbrev pub decreases-loop-x : goal.decreases-loop-x
decreases-loop-x l = l.states - l.x
