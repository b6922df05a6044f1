-- `tables::costs_of` meets its contract. The invariant: the first a entries are the costs of the actions. Assumes nothing.
use Rattle.std.proofs.Common.{◌+◌, get_or}
use Rattle.drive.specs.Drive.{drive_time}
use Rattle.digits.specs.Digits.{Filled}
use Rattle.tables.proofs.costs_of.Given as goal

abbrev pub invariant-loop-a : goal.invariant-loop-a
invariant-loop-a l = Filled l.a (λ k. get_or l.handling k 0 + drive_time (get_or l.distance k 0)) l.cost-items
