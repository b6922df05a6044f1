-- `leaf::pass` meets its contract. The invariant: the states so far have passed; before the first all are unreachable, as they were lent. Assumes nothing.
use Rattle.std.proofs.Common.{◌≡◌, ◌+◌, length, get_or}
use Rattle.leaf.specs.Price.{mark}
use Rattle.leaf.specs.Pass.{pass}
use Rattle.leaf.proofs.pass.Given as goal

abbrev pub invariant-loop-x : goal.invariant-loop-x
invariant-loop-x l = (length l.new ≡ length l.old) × (l.new ≡ pass mark (length l.old) (λ s. get_or l.moves (l.at + s) 0) l.old l.x)
