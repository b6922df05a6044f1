-- `layer::settle_layer` meets its contract. The invariant: the leaves so far stand one behind the other, settled, and behind them the prices are
-- as they were. Assumes nothing.
use Rattle.std.proofs.Common.{List, ℕ, ◌-◌, ◌≤◌}
use Rattle.task.specs.declared.Centre.{Centre}
use Rattle.layer.specs.Board.{Board, base_on, settle_on, part_on}
use Rattle.layer.specs.Board.Turns.{Laid}
use Rattle.layer.specs.Held.{board_in}
use Rattle.layer.proofs.settle_layer.Given as goal

-- the prices of the leaf behind k leaves, settled
abbrev pub leaf : Board → Centre → List ℕ → ℕ → List ℕ
leaf b centre new k = settle_on b k centre (part_on b k new)

abbrev pub invariant-loop-i : goal.invariant-loop-i
invariant-loop-i l =
    (l.i ≤ l.board.leaves) × Laid (leaf (board_in l.board) l.centre l.initial.new) l.i (base_on (board_in l.board) l.i) l.initial.new l.new

abbrev pub decreases-loop-i : goal.decreases-loop-i
decreases-loop-i l = l.board.leaves - l.i
