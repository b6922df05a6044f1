use Rattle.std.proofs.Common.{arith, length-set}
use Rattle.tables.specs.Tables.Laws.{filled_more}
use Rattle.plans.specs.Walk.{goal_on}
use Rattle.plans.proofs.goal_ends.Goals as goal

pub loop-i-preserved : goal.loop-i-preserved
unfolding goal_on
loop-i-preserved c =
    let l = c.loop-i in
    let lowest = rw (c.leaf.ensures.begins, c.leaf.ensures.stops, c.leaf-in-loop-i.ensures.begins, c.leaf-in-loop-i.ensures.stops) at c.lowest_goal.ensures in record {
      below = omega arith;
      long = simp length-set l.invariant.long;
      done = filled_more _ l.i l.ends (omega (arith, l.invariant.long, c.args.board.now.sound.few_leaves)) l.invariant.done lowest;
    }
