-- `stills::still_entry` meets its contract: what is looked at are the action's moves of the leaf. Assumes nothing.
use Rattle.std.proofs.Common.{◌∙◌, le-ltb, lt-ltb}
use Rattle.loops.specs.Count.Chains.{byte_of}
use Rattle.stills.specs.Still.{still_entry}
use Rattle.stills.proofs.still_entry.Goals as goal

pub returns-then-i-board : goal.returns-then-i-board
unfolding still_entry
returns-then-i-board c = rw (le-ltb _ _ c.if-i-board.true)

pub returns : goal.returns
unfolding still_entry
returns c =
    let w = c.leaf-states.ensures in
    c.from.ensures ∙ byte_of _ ∙ rw (c.is_still_leaf.ensures, lt-ltb _ _ c.if-i-board.false, c.states.ensures.is, w.begins, w.stops)
