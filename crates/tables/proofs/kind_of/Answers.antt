use Rattle.std.proofs.Common.{refl, sym, ◌∙◌, ◌+◌, true≢false, le_antisymm, arith}
use Rattle.loops.specs.Count.Laws.{told}
use Rattle.loops.specs.Count.{any}
use Rattle.whole.specs.Whole.Laws.{star_more, star_none}
use Rattle.tables.specs.Tables.Laws.{touches_front, leaf_pairs_front, kind_centre, kind_leaf}
use Rattle.tables.proofs.kind_of.Goals as goal

pub returns-then-touches_centre : goal.returns-then-touches_centre
returns-then-touches_centre c =
    let a = c.args in
    kind_centre _ _ _ _ _ (sym (touches_front a.pairs.now.variables a.pairs.now.factors.now (omega arith) a.pairs.now.effects.now) ∙ told c.touches_centre.ensures c.if-touches_centre.true)

pub loop-i-init : goal.loop-i-init
unfolding any
loop-i-init c = (omega arith, refl)

pub returns-then-leaf_pairs : goal.returns-then-leaf_pairs
returns-then-leaf_pairs c =
    let a = c.args in
    let l = c.loop-i in
    let row = leaf_pairs_front a.pairs.now.variables a.pairs.now.factors.now (omega arith) a.pairs.now.conditions.now a.pairs.now.effects.now (l.i + 1) in
    kind_leaf _ _ _ _ _ l.i (omega arith) (sym row ∙ told c.leaf_pairs.ensures c.if-leaf_pairs.true)

pub loop-i-preserved : goal.loop-i-preserved
loop-i-preserved c =
    let a = c.args in
    let l = c.loop-i in
    let row = leaf_pairs_front a.pairs.now.variables a.pairs.now.factors.now (omega arith) a.pairs.now.conditions.now a.pairs.now.effects.now (l.i + 1) in
    (omega arith, star_more _ _ _ _ _ l.invariant.1 (sym row ∙ told c.leaf_pairs.ensures c.if-leaf_pairs.false))

pub returns : goal.returns
returns c =
    let a = c.args in
    let l = c.loop-i in
    let outside = sym (touches_front a.pairs.now.variables a.pairs.now.factors.now (omega arith) a.pairs.now.effects.now) ∙ told c.touches_centre.ensures c.if-touches_centre.false in
    let none = star_none _ _ _ _ _ outside (rw (le_antisymm l.invariant.0 c.loop-i-test.false) at l.invariant.1) in
    absurd (true≢false (sym c.requires.star ∙ sym none))
