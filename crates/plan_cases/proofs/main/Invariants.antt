-- `plan_cases::main` is safe and ends. The count stays at most a million, and the measure is what is left to it. Assumes nothing.
use Rattle.std.proofs.Common.{◌≤◌, ◌-◌}
use Rattle.plan_cases.proofs.main.Given as goal

abbrev pub invariant-loop : goal.invariant-loop
invariant-loop l = l.counter ≤ 1000000

abbrev pub decreases-loop : goal.decreases-loop
decreases-loop l = 1000000 - l.counter
