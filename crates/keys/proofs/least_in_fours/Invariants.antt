-- `keys::least_in_fours` meets its contract. The invariant: `low` is the least of the prices so far. Assumes nothing.
use Rattle.std.proofs.Common.{◌≡◌, ◌*◌, ◌≤◌, take}
use Rattle.search.specs.Node.{least_of}
use Rattle.keys.proofs.least_in_fours.Given as goal

abbrev pub invariant-loop-j : goal.invariant-loop-j
invariant-loop-j l = (l.j ≤ l.fours) × (l.low ≡ least_of (take (l.j * 4) l.prices))
