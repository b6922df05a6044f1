-- `mets::fill` meets its contract: flags, values and list stand in the slot. Assumes nothing.
use Rattle.std.proofs.Common.{List, ℕ, ap, ◌∙◌, ◌++◌, ◌-◌, arith, length, take, drop}
use Rattle.mets.specs.Known.{Stored, stored_part, flags_right, flags_low, slot_filled}
use Rattle.mets.proofs.fill.Goals as goal
use Rattle.mets.proofs.fill.Goals.{After-copy_from_slice}

-- a list with one of its parts written
abbrev written : (K S : List ℕ) (at end : ℕ) → List ℕ
written K S at end = take at K ++ (S ++ drop (end - at) (drop at K))

-- the flags stand at the front of the slot
front : (f : After-copy_from_slice) → let S = f.find.new.flags in let K = f.args.slot.now in Stored 0 256 S K (written K S 0 256)
front f = stored_part f.args.slot.now _ 0 256 (omega arith) (omega (arith, f.requires.slot)) f.find.ensures.long

-- and the values behind them
behind : (f : After-copy_from_slice) → let S = f.copy_from_slice.new.self in let K = written f.args.slot.now f.find.new.flags 0 256 in Stored 256 32 S K (written K S 256 288)
behind f =
    stored_part _ _ 256 288 (omega arith) (omega (arith, (front f).long, f.requires.slot)) (ap length f.copy_from_slice.ensures.after ∙ f.requires.values.1)

pub list_flagged-requires-clause-flags : goal.list_flagged-requires-clause-flags
list_flagged-requires-clause-flags c =
    let at = (goal.at.list_flagged-requires-clause-flags c).After-copy_from_slice in
    let few = c.requires.conditions.0 in
    (few, flags_low _ c.args.centre _ _ _ _ _ few c.find.ensures (front at) (behind at))

pub returns : goal.returns
returns c =
    let at = (goal.at.returns c).After-copy_from_slice in
    let made = c.list_flagged.ensures in
    let few = c.requires.conditions.0 in
    let right = flags_right _ c.args.centre _ _ _ _ _ few c.find.ensures (front at) (behind at) in
    let filled = slot_filled _ c.args.centre _ _ _ _ _ few c.find.ensures (front at) (behind at) c.list_flagged.new.slot (c.copy_from_slice.ensures.after ∙ c.requires.values.0) made.kept (made.listed _ right) in
    record { slot = filled.0; told = filled.1 }
