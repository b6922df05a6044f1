-- `layer::begin_layer` meets its contract. The invariant: what came through of the leaves so far stands one leaf's behind the other, and behind
-- them the prices are as they were. Assumes nothing.
use Rattle.std.proofs.Common.{List, ℕ, ◌-◌, ◌≤◌}
use Rattle.layer.specs.Board.{Board, base_on, part_on, pass_on}
use Rattle.layer.specs.Board.Turns.{Laid}
use Rattle.layer.specs.Held.{board_in}
use Rattle.layer.proofs.begin_layer.Given as goal

-- what comes through of the leaf behind k leaves
abbrev pub leaf : Board → ℕ → List ℕ → ℕ → List ℕ
leaf b action old k = pass_on b k action (part_on b k old)

abbrev pub invariant-loop-i : goal.invariant-loop-i
invariant-loop-i l =
    (l.i ≤ l.board.leaves) × Laid (leaf (board_in l.board) l.action l.old) l.i (base_on (board_in l.board) l.i) l.initial.new l.new

abbrev pub decreases-loop-i : goal.decreases-loop-i
decreases-loop-i l = l.board.leaves - l.i
