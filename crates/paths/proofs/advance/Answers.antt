-- `paths::advance` meets its contract: the tables say whether the action applies, and what the next layer is. Assumes nothing.
use Rattle.std.proofs.Common.{sym, ◌∙◌, arith}
use Rattle.leaf.specs.Price.{mark}
use Rattle.leaf.specs.Settle.Turns.{take_replicate}
use Rattle.layer.specs.Held.{board_in}
use Rattle.paths.specs.Paths.Laws.{stepped_on}
use Rattle.paths.proofs.advance.Goals as goal

pub next_layer-requires : goal.next_layer-requires
next_layer-requires c =
    let few = c.args.board.now.sound.few_all in
    (c.requires.action, omega (arith, few, c.requires.long.1), few, take_replicate _ 1024 mark few)

pub returns-clause-some : goal.returns-clause-some
returns-clause-some c =
    let a = c.args in
    stepped_on (board_in a.board.now) a.effects.now a.spot a.action a.layer.now c.pairs_of.result _
    (sym c.applies.ensures ∙ c.if-not-applies.false)
    c.after-behind.ensures
    c.pairs_of.ensures
    c.next_layer.ensures
    (rw c.states-states.ensures.is at c.copy_words.ensures)
