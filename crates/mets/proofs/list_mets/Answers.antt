-- `mets::list_mets` meets its contract: the list stands in the slot, and is copied. Assumes nothing.
use Rattle.std.proofs.Common.{refl, inr, arith}
use Rattle.layer.specs.Held.{board_in}
use Rattle.mets.specs.Known.{list_copied, firsts_asks, known_asks, asks_known}
use Rattle.mets.proofs.list_mets.Goals as goal

-- of the board only the parts count that say which conditions its actions have
pub slot_for-at-requires-clause-firsts : goal.slot_for-at-requires-clause-firsts
slot_for-at-requires-clause-firsts c = firsts_asks (board_in c.args.board.now) c.args.firsts.now c.requires.firsts

pub slot_for-at-requires-clause-known : goal.slot_for-at-requires-clause-known
slot_for-at-requires-clause-known c = known_asks (board_in c.args.board.now) c.args.known.now c.requires.known

pub returns-clause-known : goal.returns-clause-known
returns-clause-known c = asks_known (board_in c.args.board.now) c.slot_for-at.new.known c.slot_for-at.ensures.known

pub returns-clause-listed : goal.returns-clause-listed
returns-clause-listed c =
    let slot = c.slot_for-at in
    list_copied _ c.args.centre slot.new.known _ c.store.new.into slot.result _ slot.ensures.told refl c.store.ensures

pub returns-clause-behind : goal.returns-clause-behind
returns-clause-behind c = λ k l. c.store.ensures.outside k (inr (omega (arith, l)))
