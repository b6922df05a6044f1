-- `layer::applies` meets its contract. The invariant: in each leaf so far a state passes. Assumes nothing.
use Rattle.std.proofs.Common.{◌≡◌, Bool, true, List, ℕ, ◌-◌, ◌≤◌}
use Rattle.loops.specs.Count.{all}
use Rattle.layer.specs.Board.{Board, part_on, passes_on}
use Rattle.layer.specs.Held.{board_in}
use Rattle.layer.proofs.applies.Given as goal

-- a state of the leaf behind k leaves passes
abbrev pub passed : Board → ℕ → List ℕ → ℕ → Bool
passed b action old k = passes_on b k action (part_on b k old)

abbrev pub invariant-loop-i : goal.invariant-loop-i
invariant-loop-i l =
    (l.i ≤ l.board.leaves) × (all l.i (passed (board_in l.board) l.action l.old) ≡ true)

abbrev pub decreases-loop-i : goal.decreases-loop-i
decreases-loop-i l = l.board.leaves - l.i
