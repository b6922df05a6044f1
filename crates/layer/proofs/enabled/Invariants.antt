-- `layer::enabled` meets its contract. The invariant: the enabled actions so far stand at the front, and behind them the list
-- is as it was. Assumes nothing.
use Rattle.std.proofs.Common.{◌≡◌, ◌++◌, ◌-◌, ◌≤◌, length, drop}
use Rattle.layer.specs.Board.{enabled_on}
use Rattle.layer.specs.Held.{board_in}
use Rattle.layer.proofs.enabled.Given as goal

abbrev pub invariant-loop-a : goal.invariant-loop-a
invariant-loop-a l =
    (l.a ≤ l.board.actions) × (l.count ≤ l.a) × (length l.acts ≡ length l.initial.acts) × (l.count ≡ length (enabled_on (board_in l.board) l.i l.centre l.a))
    × (l.acts ≡ enabled_on (board_in l.board) l.i l.centre l.a ++ drop l.count l.initial.acts)

abbrev pub decreases-loop-a : goal.decreases-loop-a
decreases-loop-a l = l.board.actions - l.a
