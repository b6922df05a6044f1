-- `planner::task_nodes` meets its contract: one row more than nodes. Assumes nothing.
use Rattle.std.proofs.Common.{◌≡◌, arith, ◌+◌, ◌/◌, get_or}
use Rattle.task.specs.Factors.{all_states}
use Rattle.tables.specs.Fit.{row_of}
use Rattle.planner.specs.Planner.Answers.{nodes_none, nodes_most, nodes_some}
use Rattle.planner.proofs.task_nodes.Goals as goal
use Rattle.planner.proofs.task_nodes.Goals.{After-leaf_bases-bases}

-- S by the tables
row : (c : After-leaf_bases-bases) → get_or c.leaf_bases-bases.result c.args.task.now.leaves 0 ≡ all_states c.args.task.now
row c = row_of c.args.task.now c.leaf_bases-bases.result c.leaf_bases-bases.ensures

-- the rows
rows : (c : After-leaf_bases-bases) → c.args.words / (40 + get_or c.leaf_bases-bases.result c.args.task.now.leaves 0) ≡ c.args.words / (40 + all_states c.args.task.now)
rows c = rw (row c)

pub overflow_add-rows : goal.overflow_add-rows
overflow_add-rows c = omega (arith, row (goal.at.overflow_add-rows c).After-leaf_bases-bases, c.requires.whole.few_all_states)

pub returns-then-rows-eq0 : goal.returns-then-rows-eq0
returns-then-rows-eq0 c =
    nodes_none c.args.task.now c.args.words _ (rows (goal.at.returns-then-rows-eq0 c).After-leaf_bases-bases) c.if-rows-eq0.true

pub returns-then-rows-gt4097 : goal.returns-then-rows-gt4097
returns-then-rows-gt4097 c =
    nodes_most c.args.task.now c.args.words _ (rows (goal.at.returns-then-rows-gt4097 c).After-leaf_bases-bases) (omega (arith, c.if-rows-gt4097.true))

pub returns : goal.returns
returns c =
    nodes_some c.args.task.now c.args.words _ (rows (goal.at.returns c).After-leaf_bases-bases) (omega (arith, c.if-rows-gt4097.false))
