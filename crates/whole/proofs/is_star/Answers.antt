use Rattle.std.proofs.Common.{rules, arith, add-one, suc, length, get_or}
use Rattle.std.proofs.lemmas.Iterator.{YieldsList-from_range}
use Rattle.std.proofs.lemmas.Iterator.Search.{any_from_yields_List}
use borrow.Author.Tests.{tests}
use Rattle.loops.specs.Count.Laws.{told}
use Rattle.loops.specs.Slices.{any_number}
use Rattle.task.specs.Factors.{leaf_pairs, star_pairs}
use Rattle.whole.proofs.is_star.Goals as goal

pub returns-then-touches_centre : goal.returns-then-touches_centre
unfolding star_pairs
returns-then-touches_centre c = rw (told c.touches_centre.ensures c.if-touches_centre.true) c.if-touches_centre.true

pub returns-else-touches_centre : goal.returns-else-touches_centre
unfolding star_pairs
returns-else-touches_centre c =
    let a = c.args in
    rw (told c.touches_centre.ensures c.if-touches_centre.false, any_number (λ i. leaf_pairs (length a.factors.now) (λ v. get_or a.factors.now v 0) (λ v. get_or a.conditions.now v 0) (λ v. get_or a.effects.now v 0) (suc i)) a.leaves)
    (any_from_yields_List (λ i. leaf_pairs (length a.factors.now) (λ v. get_or a.factors.now v 0) (λ v. get_or a.conditions.now v 0) (λ v. get_or a.effects.now v 0) (suc i)) _ _ c.any.result c.any.ensures.ran
    (YieldsList-from_range 0 a.leaves a.leaves (cc) (omega arith)) (λ x b q k. rw (← add-one) (search (rules, tests))))
