-- `layer::settle_leaf` meets its contract. The actions at the front of the list are the enabled ones, and they can be lent to
-- settling. Assumes nothing.
use Rattle.std.proofs.Common.{refl, ◌∙◌}
use Rattle.layer.specs.Board.Turns.{front_these, leaf_lent, leaf_settled}
use Rattle.layer.specs.Held.{board_in}
use Rattle.layer.proofs.settle_leaf.Goals as goal

pub returns : goal.returns
returns c =
    let these = front_these c.enabled-count.ensures in
    rw c.states.ensures.is at c.settle.ensures ∙ leaf_settled (board_in c.args.board.now) c.args.i c.args.centre _ _ these refl c.args.prices.now

pub settle-requires-clause-lent : goal.settle-requires-clause-lent
settle-requires-clause-lent c =
    let b = c.args.board.now in
    rw (c.requires.1, c.states.ensures.is) (leaf_lent (board_in b) c.args.i c.args.centre _ _ (front_these c.enabled-count.ensures) refl b.sound c.requires.0)
