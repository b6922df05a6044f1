use Rattle.std.proofs.Common.{◌≡◌, refl, ◌∙◌, arith, length}
use Rattle.loops.specs.Count.{list}
use Rattle.search.specs.Node.{least_of}
use Rattle.search.specs.Node.Laws.{least_of_cap}
use Rattle.keys.specs.Scan.{goals_by}
use Rattle.keys.specs.Scan.Laws.{goal_by, least_list_more, goal_here, goal_not}
use Rattle.keys.proofs.least_goal.Goals as goal

pub loop-k-init : goal.loop-k-init
unfolding least_of list
loop-k-init c = refl

pub loop-k-preserved : goal.loop-k-preserved
loop-k-preserved c =
    let l = c.loop-k in
    let a = c.args in
    let f = goal_by a.goals.now a.prices.now in
    let more = least_list_more f l.k in
    let here = goal_here a.goals.now a.prices.now l.k (omega arith) in
    let none = goal_not a.goals.now a.prices.now l.k in
    grind (arith, more, here, none, l.invariant, least_of_cap (list l.k f))

pub returns : goal.returns
unfolding goals_by
returns c =
    let l = c.loop-k in
    let all : l.k ≡ length c.args.prices.now = omega arith in
    l.invariant ∙ rw all
