-- `whole::names_within` meets its contract: the test at each variable's factor and entry. Assumes nothing.
use Rattle.std.proofs.Common.{rules, not, ◌||◌, eqb}
use Rattle.std.proofs.lemmas.Iterator.{YieldsList-from_slice, YieldsList-from_zip}
use Rattle.std.proofs.lemmas.Iterator.Search.{all_from_yields_List}
use borrow.Author.Tests.{tests}
use Rattle.loops.specs.Slices.{all_pairs}
use Rattle.task.specs.Factors.{named, within}
use Rattle.whole.proofs.names_within.Goals as goal

pub returns : goal.returns
unfolding within
returns c =
    let a = c.args in
    rw (all_pairs (λ w. not (named w.1) || (eqb w.0 a.g || eqb w.0 a.h)) a.factors.now a.pairs.now c.requires)
    (all_from_yields_List (λ w. not (named w.1) || (eqb w.0 a.g || eqb w.0 a.h)) c.all.new.self _ c.all.result c.all.ensures.ran
    (YieldsList-from_zip (YieldsList-from_slice a.factors.now cc) (YieldsList-from_slice a.pairs.now cc)) (λ x b q k. search (rules, tests)))
