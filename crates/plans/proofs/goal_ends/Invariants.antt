-- `plans::goal_ends` meets its contract. The invariant: the leaves so far have their goal states. Assumes nothing.
use Rattle.std.proofs.Common.{◌≡◌, ◌≤◌, length}
use Rattle.digits.specs.Digits.{Filled}
use Rattle.plans.specs.Walk.{goal_on}
use Rattle.plans.proofs.goal_ends.Given as goal

abbrev pub invariant-loop-i : goal.invariant-loop-i
invariant-loop-i l = record {
  below : l.i ≤ l.board.leaves;
  long : length l.ends ≡ 8;
  done : Filled l.i (goal_on l.board.bases.now l.goals l.prices) l.ends;
}
