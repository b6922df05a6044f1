-- `stills::is_still_leaf` meets its contract: what the chain tells of the moves with their places. Assumes nothing.
use Rattle.std.proofs.Common.{ap, ◌∙◌, ◌+◌, ◌-◌, ℕ, arith, eqb, get_or, take, drop, rules}
use Rattle.std.proofs.lemmas.Iterator.{YieldsList-from_slice}
use Rattle.std.proofs.lemmas.Iterator.Consumers.{YieldsList-from_enumerate}
use Rattle.std.proofs.lemmas.Iterator.Search.{all_from_yields_List}
use borrow.Author.Tests.{tests}
use Rattle.loops.specs.Count.{all}
use Rattle.loops.specs.Count.Chains.{all_placed, part_length, part_at}
use Rattle.stills.specs.Still.{stays_by}
use Rattle.stills.proofs.is_still_leaf.Goals as goal

pub returns : goal.returns
unfolding stays_by
returns c =
    let a = c.args in
    let long = part_length a.moves.now a.at a.states c.requires in
    all_from_yields_List (λ (p : ℕ × ℕ). eqb p.1 (p.0 + 1)) c.all.new.self _ _ c.all.ensures.ran
    (YieldsList-from_enumerate (YieldsList-from_slice (take (a.at + a.states - a.at) (drop a.at a.moves.now)) (cc)) (cc))
    (λ x b q k. search (rules, tests))
    ∙ all_placed _ _ _ 0 (λ k l. ap (λ m. eqb m (k + 1)) (part_at a.moves.now a.at a.states k 0 (omega (arith, l, long))))
    ∙ ap (λ n. all n (λ x. eqb (get_or a.moves.now (a.at + x) 0) (x + 1))) long
