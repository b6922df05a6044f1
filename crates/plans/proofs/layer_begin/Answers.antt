-- `plans::layer_begin` meets its contract: node 0 begins in the initial state, another with what passes over its action. Assumes nothing.
use Rattle.std.proofs.Common.{◌∙◌, ◌<◌, arith}
use Rattle.layer.specs.Board.Turns.{moves_here, moves_stay}
use Rattle.layer.specs.Held.{board_in}
use Rattle.plans.specs.Walk.Laws.{begins_first, begins_passed}
use Rattle.plans.proofs.layer_begin.Goals as goal

pub returns-then-node-eq0 : goal.returns-then-node-eq0
returns-then-node-eq0 c =
    let a = c.args in
    begins_first (board_in a.board.now) a.starts.now a.table.now a.i a.node a.out.now c.if-node-eq0.true c.requires.2

pub pass-requires : goal.pass-requires
pass-requires c =
    let b = board_in c.args.board.now in
    let sound = c.args.board.now.sound in
    let made = c.requires.0.made (omega arith) in
    let action = rw c.states-states.ensures.is at c.action_of.ensures in
    let known : c.action_of.result < b.actions = omega (arith, made.known, action) in
    rw (c.states-states.ensures.is, c.leaf.ensures.begins, c.prices_of.ensures.long)
    (c.requires.2, moves_here b sound c.args.i _ c.requires.1 known, moves_stay b sound c.args.i _ c.requires.1 known)

pub returns : goal.returns
returns c =
    let a = c.args in
    let parent = rw c.states-states.ensures.is at c.parent_of-parent.ensures in
    let action = rw c.states-states.ensures.is at c.action_of.ensures in
    let passed = rw (c.states-states.ensures.is, c.leaf.ensures.begins) at c.pass.ensures in
    passed
    ∙ begins_passed (board_in a.board.now) a.starts.now a.table.now a.i a.node _ _ c.prices_of.result.now (omega arith) parent action
    c.prices_of.ensures.prices c.prices_of.ensures.long
