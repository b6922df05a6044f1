-- `mets::slot_for` meets its contract: the slot holds what is known of the centre state, or is filled with it. Assumes nothing.
use Rattle.mets.specs.Known.{known_told, known_filled, told_filled}
use Rattle.mets.proofs.slot_for.Goals as goal

pub returns-then-is_known-clause-told : goal.returns-then-is_known-clause-told
returns-then-is_known-clause-told c =
    let slot = c.slot_of-at in
    known_told _ _ c.requires.known c.requires.conditions.0 slot.result slot.ensures c.args.centre (c.is_known.ensures c.if-is_known.true)

pub returns-clause-known : goal.returns-clause-known
returns-clause-known c =
    let slot = c.slot_of-at in
    known_filled _ _ c.requires.known c.requires.conditions.0 slot.result slot.ensures c.fill.new.slot c.fill.auto.slot c.fill.ensures.slot

pub returns-clause-told : goal.returns-clause-told
returns-clause-told c =
    let slot = c.slot_of-at in
    told_filled _ _ c.requires.known c.requires.conditions.0 slot.result slot.ensures c.fill.new.slot c.fill.auto.slot c.args.centre c.fill.ensures.told
