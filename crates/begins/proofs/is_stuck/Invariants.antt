-- `begins::is_stuck` meets its contract. The invariant: the action is stuck in none of the leaves so far. Assumes nothing.
use Rattle.std.proofs.Common.{◌≡◌, false, ◌+◌, ◌*◌, get_or}
use Rattle.loops.specs.Count.{any}
use Rattle.layer.specs.Board.{row_on}
use Rattle.layer.specs.Held.{board_in}
use Rattle.begins.specs.Begin.{stuck_in}
use Rattle.begins.proofs.is_stuck.Given as goal

abbrev pub invariant-loop-i : goal.invariant-loop-i
invariant-loop-i l =
    any l.i (λ k. stuck_in k l.board.bases.now l.board.moves.now (l.a * row_on (board_in l.board)) (get_or l.stills (l.a * 8 + k) 0) l.old) ≡ false
