-- `plans::go_over` meets its contract. The invariant: the leaves so far are in the parent's layer, the others where they were. Assumes nothing.
use Rattle.std.proofs.Common.{◌≤◌}
use Rattle.layer.specs.Held.{board_in}
use Rattle.plans.specs.Walk.{over_on}
use Rattle.plans.specs.Walk.Turns.{OverLeft}
use Rattle.plans.proofs.go_over.Given as goal

abbrev pub invariant-loop-i : goal.invariant-loop-i
invariant-loop-i l = record {
  below : l.i ≤ l.board.leaves;
  left : OverLeft (λ j z. over_on (board_in l.board) l.table j l.node z) l.initial.ends l.i l.ends;
}
