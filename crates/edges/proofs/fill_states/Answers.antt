use Rattle.std.proofs.Common.{◌∙◌, le_antisymm, arith}
use Rattle.layer.specs.Held.{board_in}
use Rattle.edges.specs.Edges.Fill.{state_more, state_room}
use Rattle.edges.proofs.fill_states.Goals as goal

pub fill_state-requires : goal.fill_state-requires
fill_state-requires c =
    let s = c.args in
    let inv = c.loop-s.invariant in
    let e = c.in-Some.ensures.steps in
    let room = state_room (board_in s.board.now) s.board.now.sound s.i c.loop-s.s-iterator.start s.own.now _ _ c.requires.i_lt_leaves (omega arith) c.requires.own inv.table in
    record { room = rw e.1.1 (room.0, room.1); inside = rw (c.states-row.ensures.is, e.1.1) room.2 }

pub loop-s-preserved : goal.loop-s-preserved
loop-s-preserved c =
    let s = c.args in
    let inv = c.loop-s.invariant in
    let e = c.in-Some.ensures.steps in
    record {
      of_leaf = omega arith;
      ahead = omega arith;
      until = e.0 ∙ inv.until;
      table = rw (c.fill_state.ensures.ends, c.states-row.ensures.is, e.1.1, e.1.2) (state_more (board_in s.board.now) s.board.now.sound s.i c.loop-s.s-iterator.start s.own.now _ _ _ c.requires.i_lt_leaves inv.of_leaf (omega arith) c.requires.own inv.table (rw (c.states-row.ensures.is, e.1.1) at c.fill_state.ensures.wrote));
    }

pub returns : goal.returns
returns c =
    let inv = c.loop-s.invariant in
    let e = c.in-None.ensures.steps in
    rw (le_antisymm inv.ahead (omega arith) ∙ inv.until) at inv.table
