-- `compare::main` is safe and ends. The number stays at most a million, and the measure is what is left to it. Assumes nothing.
use Rattle.std.proofs.Common.{◌≤◌, ◌-◌}
use Rattle.compare.proofs.main.Given as goal

abbrev pub invariant-loop-number : goal.invariant-loop-number
invariant-loop-number l = l.number ≤ 1000000

abbrev pub decreases-loop-number : goal.decreases-loop-number
decreases-loop-number l = 1000000 - l.number
