-- `plans::leaf_over` meets its contract: it goes by the prices in the parent's row and the state's price in the node's. Assumes nothing.
use Rattle.std.proofs.Common.{◌∙◌, refl, arith}
use Rattle.layer.specs.Held.{board_in}
use Rattle.plans.specs.Walk.Laws.{over_here}
use Rattle.plans.proofs.leaf_over.Goals as goal

pub returns : goal.returns
returns c =
    let a = c.args in
    let parent = rw c.states-states.ensures.is at c.parent_of-parent.ensures in
    let action = rw c.states-states.ensures.is at c.action_of.ensures in
    let lowest = rw (c.states-states.ensures.is, c.leaf.ensures.begins) at c.lowest_over.ensures in
    lowest
    ∙ over_here (board_in a.board.now) a.table.now a.i a.node _ _ a.state _ c.prices_of-2.result.now c.prices_of.result.now parent action
    c.prices_of-2.ensures.prices c.prices_of.ensures.prices (omega (arith, c.prices_of.ensures.long, c.requires.1)) refl
