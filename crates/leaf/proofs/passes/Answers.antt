-- `leaf::passes` meets its contract: what the chain tells of the prices beside the moves is said state by state. Assumes nothing.
use Rattle.std.proofs.Common.{◌∙◌, ap, not, ◌&&◌, ltb, eqb, ℕ, rules, arith, get_or, get_or-drop, drop, length-drop}
use Rattle.std.proofs.lemmas.Iterator.{YieldsList-from_slice, YieldsList-from_zip}
use Rattle.std.proofs.lemmas.Iterator.Search.{any_from_yields_List}
use borrow.Author.Tests.{tests}
use Rattle.std.proofs.lemmas.Slice.{between_to_end}
use Rattle.loops.specs.Count.Chains.{any_zip}
use Rattle.leaf.specs.Price.{mark}
use Rattle.leaf.proofs.passes.Goals as goal

pub returns : goal.returns
returns c =
    let a = c.args in
    any_from_yields_List (λ (p : ℕ × ℕ). ltb p.0 mark && not (eqb p.1 0)) c.any.new.self _ _ c.any.ensures.ran
    (YieldsList-from_zip (YieldsList-from_slice a.prices.now cc) (YieldsList-from_slice (drop a.at a.moves.now) (c.zip.ensures.second.0 ∙ between_to_end a.moves.now a.at _ (omega arith))))
    (λ x b q k. search (rules, tests))
    ∙ any_zip _ _ _ _ mark 0 (simp length-drop (omega arith))
    (λ k l. ap (λ m. ltb (get_or a.prices.now k mark) mark && not (eqb m 0)) (get_or-drop a.at a.moves.now k 0))
