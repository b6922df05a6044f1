use Rattle.std.proofs.Common.{◌≡◌, ◌∙◌, ◌+◌, arith}
use Rattle.loops.specs.Count as count
use Rattle.keys.specs.Scan.{goal_sum_by}
use Rattle.keys.specs.Scan.Laws.{capped_more, capped_full}
use Rattle.keys.proofs.goal_sum.Invariants.{sum_to}
use Rattle.keys.proofs.goal_sum.Goals as goal
use Rattle.keys.proofs.goal_sum.Goals.{After-add_price-sum}

-- the sum over the leaves so far and one more
summed : (c : After-add_price-sum) → let a = c.args in c.add_price-sum.result ≡ sum_to a.board.now.bases.now a.goals.now a.paid a.prices.now (c.loop-i.i + 1)
summed c =
    let l = c.loop-i in
    let s = c.leaf-states.ensures in
    c.add_price-sum.ensures ∙ capped_more l.i _ _ l.sum c.least_goal-low.result l.invariant.1 (rw (s.begins, s.stops) at c.least_goal-low.ensures)

pub loop-i-init : goal.loop-i-init
unfolding count.sum
loop-i-init c = (omega arith, omega (arith, c.ranges.paid))

pub returns-then-sum-ge-MARK : goal.returns-then-sum-ge-MARK
unfolding goal_sum_by
returns-then-sum-ge-MARK c =
    capped_full _ _ _ _ _ c.loop-i-test.true c.if-sum-ge-MARK.true (summed (goal.at.returns-then-sum-ge-MARK c).After-add_price-sum)

pub loop-i-preserved : goal.loop-i-preserved
loop-i-preserved c = (omega arith, summed (goal.at.loop-i-preserved c).After-add_price-sum)

pub returns : goal.returns
unfolding goal_sum_by
returns c =
    let all : c.loop-i.i ≡ c.args.board.now.leaves = omega arith in
    c.loop-i.invariant.1 ∙ rw all
