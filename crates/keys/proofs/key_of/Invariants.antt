-- `keys::key_of` meets its contract. The invariant: the centre cost and the least price of each leaf so far, at most the mark. Assumes nothing.
use Rattle.std.proofs.Common.{◌≡◌, ◌+◌, ◌≤◌, min}
use Rattle.loops.specs.Count.{sum}
use Rattle.leaf.specs.Price.{mark}
use Rattle.search.specs.Node.{least_of}
use Rattle.keys.specs.Scan.{part_by}
use Rattle.keys.proofs.key_of.Given as goal

abbrev pub invariant-loop-i : goal.invariant-loop-i
invariant-loop-i l = (l.i ≤ l.board.leaves) × (l.key ≡ min (l.paid + sum l.i (λ k. least_of (part_by l.board.bases.now k l.prices))) mark)
