-- `edges::fill_states` meets its contract. The invariant: the table has the edges of the states before the next one. Assumes nothing.
use Rattle.std.proofs.Common.{◌≡◌, ◌+◌, ◌≤◌}
use Rattle.layer.specs.Board.{base_on}
use Rattle.layer.specs.Held.{board_in}
use Rattle.edges.specs.Edges.{EdgesTo}
use Rattle.edges.proofs.fill_states.Given as goal

abbrev pub invariant-loop-s : goal.invariant-loop-s
invariant-loop-s l =
    record {
      of_leaf : base_on (board_in l.board) l.i ≤ l.s-iterator.start;
      ahead : l.s-iterator.start ≤ l.s-iterator.end;
      until : l.s-iterator.end ≡ base_on (board_in l.board) (l.i + 1);
      table : EdgesTo (board_in l.board) l.s-iterator.start l.list l.ends;
    }
