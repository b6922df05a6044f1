-- `plans::write_plan` meets its contract: what it lends to work in has room for the edges of each leaf. Assumes nothing.
use Rattle.layer.specs.Held.{board_in}
use Rattle.plans.specs.Walk.Laws.{roomy_small, roomy_large}
use Rattle.plans.proofs.write_plan.Goals as goal

pub write_with-requires-clause-room : goal.write_with-requires-clause-room
write_with-requires-clause-room c =
    let board = c.args.tables.now.board in
    roomy_small (board_in board) board.sound 4096 (rw c.states.ensures.is at c.if-tables-states-le4096.true)

pub write_with-requires-2-clause-room : goal.write_with-requires-2-clause-room
write_with-requires-2-clause-room c = let board = c.args.tables.now.board in roomy_large (board_in board) board.sound
