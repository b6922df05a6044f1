-- `tables::number_of` meets its contract. The invariant: the number is that of the variables so far, which is below 256. Assumes nothing.
use Rattle.std.proofs.Common.{◌≡◌, ◌-◌, ◌≤◌}
use Rattle.task.specs.Factors.{number_to}
use Rattle.digits.specs.Digits.{entries}
use Rattle.tables.proofs.number_of.Given as goal

abbrev pub invariant-loop-v : goal.invariant-loop-v
invariant-loop-v l = (l.v ≤ l.variables) × (l.number ≡ number_to (entries l.factors) (entries l.sizes) l.factor (entries l.values) l.v)

abbrev pub decreases-loop-v : goal.decreases-loop-v
decreases-loop-v l = l.variables - l.v
