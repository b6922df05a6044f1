-- `whole::factors_used` meets its contract: the test at each factor. Assumes nothing.
use Rattle.std.proofs.Common.{rules, arith, ◌+◌, eqb, length, get_or}
use Rattle.std.proofs.lemmas.Iterator.{YieldsList-from_range}
use Rattle.std.proofs.lemmas.Iterator.Search.{all_from_yields_List}
use borrow.Author.Tests.{tests}
use Rattle.loops.specs.Count.{any}
use Rattle.loops.specs.Slices.{all_numbers}
use Rattle.whole.specs.Whole.{factors_used}
use Rattle.whole.proofs.factors_used.Goals as goal

pub returns : goal.returns
unfolding factors_used
returns c =
    let factors = c.args.factors.now in
    let n = c.args.leaves + 1 in
    rw (all_numbers (λ g. any (length factors) (λ v. eqb (get_or factors v 0) g)) n)
    (all_from_yields_List (λ g. any (length factors) (λ v. eqb (get_or factors v 0) g)) _ _ c.all.result c.all.ensures.ran
    (YieldsList-from_range 0 n n (cc) (omega arith)) (λ x b q k. search (rules, tests)))
