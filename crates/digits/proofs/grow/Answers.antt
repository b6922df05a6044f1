use Rattle.std.proofs.Common.{◌∙◌, ◌-◌, arith}
use Rattle.digits.specs.Digits.Laws.{digit_room, outside, growing_more}
use Rattle.digits.proofs.grow.Goals as goal

pub loop-x-preserved : goal.loop-x-preserved
loop-x-preserved c =
    let a = c.args in
    let l = c.loop-x in
    let u = l.x - 1 in
    let did = c.spread.ensures in
    let own = digit_room u a.states a.size (omega arith) c.requires.size_bound.1 in (
      omega arith,
      c.spread.auto.moves ∙ l.invariant.1,
      λ k o. did.same k (outside (omega arith) (omega arith) o) ∙ l.invariant.2 k o,
      growing_more a.from a.states a.size a.condition a.effect a.moves.now u l.x l.moves c.spread.new.moves (omega arith) c.requires.size_bound.1 l.invariant.3 did.placed did.same,
    )
