-- `steps::holds` meets its contract: what the chain tells of the pairs beside the values is what the meaning says place by place. Assumes nothing.
use Rattle.std.proofs.Common.{refl, ◌∙◌, rules, ℕ}
use Rattle.std.proofs.lemmas.Iterator.{YieldsList-from_slice, YieldsList-from_zip}
use Rattle.std.proofs.lemmas.Iterator.Search.{all_from_yields_List}
use borrow.Author.Tests.{tests}
use Rattle.loops.specs.Count.Chains.{all_zip}
use Rattle.task.specs.Meaning.{met, holds}
use Rattle.steps.proofs.holds.Goals as goal

pub returns : goal.returns
unfolding holds
returns c =
    let a = c.args in
    all_from_yields_List (λ (p : ℕ × ℕ). met p.0 p.1) c.all.new.self _ _ c.all.ensures.ran
    (YieldsList-from_zip (YieldsList-from_slice a.pairs.now cc) (YieldsList-from_slice a.values.now cc))
    (λ x b q k. search (rules, tests))
    ∙ all_zip _ _ _ _ 0 0 c.requires (λ k l. refl)
