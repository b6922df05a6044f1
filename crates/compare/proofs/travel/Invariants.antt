-- `compare::travel` is safe and ends. The measure is what is left up to 400. Assumes nothing.
use Rattle.std.proofs.Common.{◌≤◌, ◌-◌}
use Rattle.compare.proofs.travel.Given as goal

abbrev pub invariant-loop-t : goal.invariant-loop-t
invariant-loop-t l = l.t ≤ 400

abbrev pub decreases-loop-t : goal.decreases-loop-t
decreases-loop-t l = 400 - l.t
