-- `plans::lowest_goal` meets its contract. What counts at each state is tested in order. Assumes nothing.
use Rattle.std.proofs.Common.{◌∙◌, refl, ℕ, Bool, cond, eqb, rules, tests}
use Rattle.std.proofs.lemmas.Iterator.{YieldsList-from_slice, YieldsList-from_zip}
use Rattle.std.proofs.lemmas.Iterator.Search.{position_from_yields_List}
use Rattle.leaf.specs.Price.{mark}
use Rattle.wayback.specs.Lowest.{lowest_found}
use Rattle.plans.specs.Walk.Laws.{goal_price}
use Rattle.plans.proofs.lowest_goal.Goals as goal

pub returns : goal.returns
returns c =
    let goals = c.args.goals.now in
    let prices = c.args.prices.now in
    let least = c.least_goal-least.result in
    let test : ℕ × ℕ → Bool = λ q. eqb (cond (eqb q.0 0) mark q.1) least in
    let found = position_from_yields_List test c.position.new.self _ c.position.result c.position.ensures.ran
    (YieldsList-from_zip {xs = goals} {ys = prices} (YieldsList-from_slice goals cc) (YieldsList-from_slice prices cc)) (λ x b q k. search (rules, tests)) in
    c.unwrap_or.ensures
    ∙ lowest_found _ test goals prices c.requires (λ x h. rw (goal_price goals prices x h, c.least_goal-least.ensures) refl) c.position.result found
