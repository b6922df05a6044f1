-- `whole::whole` meets its contract: at each return the tests so far and the one that fails decide the verdict. Assumes nothing.
use Rattle.std.proofs.Common.{rules}
use Rattle.loops.specs.Count.Laws.{told}
use Rattle.whole.specs.Whole.Ext.{empty_task, many_task, other_task, passed_task}
use Rattle.whole.proofs.whole.Goals as goal

pub returns-then-not-factors_used : goal.returns-then-not-factors_used
returns-then-not-factors_used c = empty_task c.args.task.now _ _ (search rules) c.from-n.ensures c.from-leaves.ensures (search told)

pub returns-then-not-states_few : goal.returns-then-not-states_few
returns-then-not-states_few c = many_task c.args.task.now _ _ (search rules) c.from-n.ensures c.from-leaves.ensures (search told) (search told)

pub returns-then-not-all_star : goal.returns-then-not-all_star
returns-then-not-all_star c =
    other_task c.args.task.now _ _ (search rules) c.from-n.ensures c.from-leaves.ensures _ c.from-actions.ensures (search told) (search told) (search told)

pub returns : goal.returns
returns c =
    passed_task c.args.task.now _ _ (search rules) c.from-n.ensures c.from-leaves.ensures _ c.from-actions.ensures (search told) (search told) (search told)
