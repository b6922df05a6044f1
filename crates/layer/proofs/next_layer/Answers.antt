-- `layer::next_layer` meets its contract. What settles is the begin, and the begin, settled, is the layer. Assumes nothing.
use Rattle.std.proofs.Common.{◌∙◌}
use Rattle.layer.specs.Board.Begin.{begin_next}
use Rattle.layer.specs.Held.{board_in}
use Rattle.layer.proofs.next_layer.Goals as goal

pub returns : goal.returns
returns c =
    let a = c.args in
    c.settle_layer.ensures ∙ rw c.begin_layer.ensures (begin_next (board_in a.board.now) a.board.now.sound a.action a.old.now a.centre a.new.now)
