-- `edges::fill_edges` meets its contract. The invariant: the table has the edges of the first i leaves. Assumes nothing.
use Rattle.layer.specs.Board.{base_on}
use Rattle.layer.specs.Held.{board_in}
use Rattle.edges.specs.Edges.{EdgesTo}
use Rattle.edges.proofs.fill_edges.Given as goal

abbrev pub invariant-loop-i : goal.invariant-loop-i
invariant-loop-i l = EdgesTo (board_in l.board) (base_on (board_in l.board) l.i) l.list l.ends
