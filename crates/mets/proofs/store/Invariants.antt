-- `mets::store` meets its contract. The invariant: the bytes so far stand in their places. Assumes nothing.
use Rattle.std.proofs.Common.{◌≤◌, ◌-◌}
use Rattle.mets.specs.Known.{Stored}
use Rattle.mets.proofs.store.Given as goal

abbrev pub invariant-loop-j : goal.invariant-loop-j
invariant-loop-j l = (l.j ≤ l.count) × Stored l.at l.j l.from l.initial.into l.into

abbrev pub decreases-loop-j : goal.decreases-loop-j
decreases-loop-j l = l.count - l.j
