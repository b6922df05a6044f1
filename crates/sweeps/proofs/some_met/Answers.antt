-- The test at each action. An action is a byte, and there are flags for all bytes. Assumes nothing.
use Rattle.std.proofs.Common.{not, eqb, get_or, rules}
use Rattle.std.proofs.lemmas.Iterator.{YieldsList-from_slice}
use Rattle.std.proofs.lemmas.Iterator.Search.{any_from_yields_List}
use borrow.Author.Tests.{tests}
use Rattle.loops.specs.Slices.{any_entry}
use Rattle.sweeps.specs.Sweeps.{some_met}
use Rattle.sweeps.proofs.some_met.Goals as goal

pub returns : goal.returns
unfolding some_met
returns c =
    let mets = c.args.mets.now in
    rw (any_entry (λ a. not (eqb (get_or mets a 0) 0)) c.args.acts.now)
    (any_from_yields_List (λ a. not (eqb (get_or mets a 0) 0)) _ _ c.any.result c.any.ensures.ran (YieldsList-from_slice c.args.acts.now cc) (λ x b q k. search (rules, tests)))
