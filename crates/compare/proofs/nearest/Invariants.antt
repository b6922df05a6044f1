-- `compare::nearest` meets its contract. The invariant: what is found so far is a state that there is. Assumes nothing.
use Rattle.std.proofs.Common.{◌<◌, length, IfSome}
use Rattle.compare.proofs.nearest.Given as goal

abbrev pub invariant-loop-state : goal.invariant-loop-state
invariant-loop-state l = IfSome l.found (λ near. near.state < length l.nodes)
