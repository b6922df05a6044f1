-- `whole::all_star` meets its contract: the test at each action, whose pairs are a part of each of the two tables. Assumes nothing.
use Rattle.std.proofs.Common.{◌+◌, ◌*◌, arith, rules, length, get_or}
use Rattle.std.proofs.lemmas.Iterator.{YieldsList-from_range}
use Rattle.std.proofs.lemmas.Iterator.Search.{all_from_yields_List}
use borrow.Author.Tests.{tests}
use Rattle.loops.specs.Slices.{all_numbers}
use Rattle.task.specs.Factors.{star_pairs}
use Rattle.whole.specs.Whole.{all_star}
use Rattle.whole.specs.Whole.Ext.{row_star}
use Rattle.whole.proofs.all_star.Goals as goal

pub returns : goal.returns
unfolding all_star
returns c =
    let a = c.args in
    let n = length a.factors.now in
    rw (all_numbers (λ k. star_pairs n (λ v. get_or a.factors.now v 0) a.leaves (λ v. get_or a.conditions.now (k * 32 + v) 0) (λ v. get_or a.effects.now (k * 32 + v) 0)) a.actions)
    (all_from_yields_List (λ k. star_pairs n (λ v. get_or a.factors.now v 0) a.leaves (λ v. get_or a.conditions.now (k * 32 + v) 0) (λ v. get_or a.effects.now (k * 32 + v) 0)) _ _ c.all.result c.all.ensures.ran
    (YieldsList-from_range 0 a.actions a.actions (cc) (omega arith)) (λ x b q k. rw (← row_star n (λ v. get_or a.factors.now v 0) a.leaves (x * 32) a.conditions.now a.effects.now) (search (rules, tests))))
