-- `keys::least` meets its contract. The invariant: `low` is the least of the prices so far. Assumes nothing.
use Rattle.std.proofs.Common.{◌≡◌, ◌+◌, take}
use Rattle.search.specs.Node.{least_of}
use Rattle.keys.proofs.least.Given as goal

abbrev pub invariant-loop-price : goal.invariant-loop-price
invariant-loop-price l = l.low ≡ least_of (take (l.from + l.price-index) l.prices)
