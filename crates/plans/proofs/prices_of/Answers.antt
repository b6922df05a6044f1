-- `plans::prices_of` meets its contract: the prices are a part of the node's row. Assumes nothing.
use Rattle.layer.specs.Held.{board_in}
use Rattle.plans.specs.Walk.Laws.{prices_at}
use Rattle.plans.proofs.prices_of.Goals as goal

pub returns-clause-prices : goal.returns-clause-prices
returns-clause-prices c =
    let a = c.args in
    rw (c.row_of-row.ensures.row, c.leaf-leaf.ensures.begins, c.leaf-leaf.ensures.stops, c.states.ensures.is)
    (prices_at (board_in a.board.now) a.table.now a.i a.node a.board.now.sound c.requires.0)
