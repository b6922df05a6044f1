-- `whole::factor_used` meets its contract: the test at each entry. Assumes nothing.
use Rattle.std.proofs.Common.{rules, eqb}
use Rattle.std.proofs.lemmas.Iterator.{YieldsList-from_slice}
use Rattle.std.proofs.lemmas.Iterator.Search.{any_from_yields_List}
use borrow.Author.Tests.{tests}
use Rattle.loops.specs.Slices.{any_entry}
use Rattle.whole.proofs.factor_used.Goals as goal

pub returns : goal.returns
returns c =
    rw (any_entry (λ f. eqb f c.args.g) c.args.factors.now)
    (any_from_yields_List (λ f. eqb f c.args.g) _ _ c.any.result c.any.ensures.ran (YieldsList-from_slice c.args.factors.now cc) (λ x b q k. search (rules, tests)))
