-- `wayback::lowest_over` meets its contract. The action's move and the price, state by state, are tested in order. Assumes nothing.
use Rattle.std.proofs.Common.{◌≡◌, ◌∙◌, ℕ, Bool, ◌&&◌, eqb, ◌+◌, ◌-◌, ◌<◌, List, take, drop, length, get_or, arith, rules, tests, length-take, length-drop, get_or-take, get_or-drop, refl, add-one}
use Rattle.std.proofs.lemmas.Iterator.{YieldsList-from_slice, YieldsList-from_zip}
use Rattle.std.proofs.lemmas.Iterator.Search.{position_from_yields_List}
use Rattle.leaf.specs.Price.{mark}
use Rattle.leaf.specs.Settle.Turns.{at_any}
use Rattle.wayback.specs.Lowest.{lowest_found}
use Rattle.wayback.proofs.lowest_over.Goals as goal

pub returns : goal.returns
returns c =
    let a = c.args in
    let old = a.old.now in
    let row : List ℕ = take (a.at + length old - a.at) (drop a.at a.moves.now) in
    let long : length row ≡ length old = simp (length-take, length-drop) (omega (arith, c.requires.0)) in
    let test : ℕ × ℕ → Bool = λ q. eqb q.0 (a.state + 1) && eqb q.1 a.price in
    let here : (x : ℕ) → x < length old → get_or row x 0 ≡ get_or a.moves.now (a.at + x) 0 =
    λ x h. get_or-take (a.at + length old - a.at) (drop a.at a.moves.now) x 0 (omega arith) ∙ get_or-drop a.at a.moves.now x 0 in
    let found = position_from_yields_List test c.position.new.self _ c.position.result c.position.ensures.ran
    (YieldsList-from_zip {xs = row} {ys = old} (YieldsList-from_slice row cc) (YieldsList-from_slice old cc)) (λ x b q k. search (rules, tests)) in
    c.unwrap_or.ensures ∙ lowest_found _ test row old long (λ x h. rw (here x h, at_any old x mark 0 h, add-one) refl) c.position.result found
