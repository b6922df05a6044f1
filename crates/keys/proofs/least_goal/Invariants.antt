-- `keys::least_goal` meets its contract. The invariant: `low` is the least price of the goal states so far. Assumes nothing.
use Rattle.std.proofs.Common.{◌≡◌}
use Rattle.loops.specs.Count.{list}
use Rattle.search.specs.Node.{least_of}
use Rattle.keys.specs.Scan.Laws.{goal_by}
use Rattle.keys.proofs.least_goal.Given as goal

abbrev pub invariant-loop-k : goal.invariant-loop-k
invariant-loop-k l = l.low ≡ least_of (list l.k (goal_by l.goals l.prices))
