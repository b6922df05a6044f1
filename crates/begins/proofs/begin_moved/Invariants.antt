-- `begins::begin_moved` meets its contract: each leaf is carried. The invariant: what came through of the leaves so far stands one leaf's behind the other, and behind
-- them the old prices, which were copied first; the key has risen with their least prices. Assumes nothing.
use Rattle.std.proofs.Common.{List, ℕ}
use Rattle.layer.specs.Board.{Board, base_on, part_on, pass_on}
use Rattle.layer.specs.Board.Turns.{Laid}
use Rattle.layer.specs.Held.{board_in}
use Rattle.search.specs.Node.{least_of}
use Rattle.begins.specs.Begin.{Risen}
use Rattle.begins.proofs.begin_moved.Given as goal

-- what comes through of the leaf behind k leaves
abbrev pub leaf : Board → ℕ → List ℕ → ℕ → List ℕ
leaf b action old k = pass_on b k action (part_on b k old)

abbrev pub invariant-loop-i : goal.invariant-loop-i
invariant-loop-i l =
    record {
      laid : Laid (leaf (board_in l.board) l.action l.old) l.i (base_on (board_in l.board) l.i) l.initial.new l.new;
      risen : Risen (λ k. least_of (part_on (board_in l.board) k l.old)) (λ k. least_of (leaf (board_in l.board) l.action l.old k)) l.i l.low l.key;
    }
