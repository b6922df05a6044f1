-- `whole::touches_centre` meets its contract: the test at each variable's factor and entry. Assumes nothing.
use Rattle.std.proofs.Common.{rules, ◌&&◌, eqb}
use Rattle.std.proofs.lemmas.Iterator.{YieldsList-from_slice, YieldsList-from_zip}
use Rattle.std.proofs.lemmas.Iterator.Search.{any_from_yields_List}
use borrow.Author.Tests.{tests}
use Rattle.loops.specs.Slices.{any_pair}
use Rattle.task.specs.Factors.{named, touches}
use Rattle.whole.proofs.touches_centre.Goals as goal

pub returns : goal.returns
unfolding touches
returns c =
    let a = c.args in
    rw (any_pair (λ w. eqb w.0 0 && named w.1) a.factors.now a.pairs.now c.requires)
    (any_from_yields_List (λ w. eqb w.0 0 && named w.1) c.any.new.self _ c.any.result c.any.ensures.ran
    (YieldsList-from_zip (YieldsList-from_slice a.factors.now cc) (YieldsList-from_slice a.pairs.now cc)) (λ x b q k. search (rules, tests)))
