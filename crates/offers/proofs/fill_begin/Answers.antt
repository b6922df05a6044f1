-- `offers::fill_begin` meets its contract. Assumes nothing.
use Rattle.std.proofs.Common.{sym, ◌∙◌}
use Rattle.rows.specs.Begun.{begun_moved, begun_stays}
use Rattle.offers.proofs.fill_begin.Goals as goal

pub returns-then-still-eq0 : goal.returns-then-still-eq0
returns-then-still-eq0 c = let a = c.args in sym (begun_moved a.still a.states a.old.now a.begin.now c.if-still-eq0.true)

pub returns : goal.returns
returns c =
    let a = c.args in
    c.copy_words.ensures ∙ sym (begun_stays a.still a.states a.old.now a.begin.now c.if-still-eq0.false)
