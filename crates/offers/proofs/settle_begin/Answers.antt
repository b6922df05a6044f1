-- `offers::settle_begin` meets its contract: the flags in the slot are those of the centre state. Assumes nothing.
use Rattle.std.proofs.Common.{◌+◌, ◌≤◌, arith, length}
use Rattle.layer.specs.Held.{board_in}
use Rattle.mets.specs.Known.{told_mets, firsts_asks, known_asks, asks_known, asks_told}
use Rattle.offers.proofs.settle_begin.Goals as goal

-- of the board only the parts count that say which conditions its actions have
pub slot_for-slot-requires-clause-firsts : goal.slot_for-slot-requires-clause-firsts
slot_for-slot-requires-clause-firsts c = firsts_asks (board_in c.args.tables.now.board) _ c.args.tables.now.asked

pub slot_for-slot-requires-clause-known : goal.slot_for-slot-requires-clause-known
slot_for-slot-requires-clause-known c = known_asks (board_in c.args.tables.now.board) _ c.requires.known

pub settle_edges-requires : goal.settle_edges-requires
settle_edges-requires c =
    let t = c.args.tables.now in
    let r = c.slot_for-slot in
    let room : r.result + 576 ≤ length r.new.known = omega (arith, r.ensures.inside, r.ensures.known.long) in
    (told_mets (board_in t.board) c.args.spot _ r.result t.board.sound.few_actions room (asks_told (board_in t.board) c.args.spot _ r.ensures.told), t.edged, c.requires.begin.1)

pub returns : goal.returns
returns c =
    let e = c.settle_edges.ensures in
    (e.0, asks_known (board_in c.args.tables.now.board) _ c.slot_for-slot.ensures.known, e.1)
