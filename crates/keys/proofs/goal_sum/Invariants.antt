-- `keys::goal_sum` meets its contract. The invariant: the centre cost and the least price of a goal state of each leaf so far, at most the
-- mark. Assumes nothing.
use Rattle.std.proofs.Common.{◌≡◌, List, ℕ, ◌+◌, ◌≤◌, min}
use Rattle.loops.specs.Count as count
use Rattle.leaf.specs.Price.{mark}
use Rattle.search.specs.Node.{least_of}
use Rattle.keys.specs.Scan.{part_by, goals_by}
use Rattle.keys.proofs.goal_sum.Given as goal

-- the sum over the first i leaves
abbrev pub sum_to : List ℕ → List ℕ → ℕ → List ℕ → ℕ → ℕ
sum_to bases goals paid prices i = min (paid + count.sum i (λ k. least_of (goals_by (part_by bases k goals) (part_by bases k prices)))) mark

abbrev pub invariant-loop-i : goal.invariant-loop-i
invariant-loop-i l = (l.i ≤ l.board.leaves) × (l.sum ≡ sum_to l.board.bases.now l.goals l.paid l.prices l.i)
