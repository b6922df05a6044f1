-- `planner::plan_task` meets its contract: 20, then 21, then the search. Assumes nothing.
use Rattle.std.proofs.Common.{◌≡◌, arith, ◌+◌, ◌*◌, ◌≤◌, get_or}
use Rattle.task.specs.Factors.{all_states}
use Rattle.tables.specs.Fit.{row_of}
use Rattle.solve.specs.Solve.{table_words}
use Rattle.solve.specs.Solve.Answers.{words_is, words_few}
use Rattle.planner.specs.Planner.Answers.{task_none, task_many, task_short, task_searched}
use Rattle.planner.proofs.plan_task.Goals as goal
use Rattle.planner.proofs.plan_task.Goals.{After-leaf_bases-bases}

-- the nodes are 1 to 4,096
some : (c : After-leaf_bases-bases) → 1 ≤ c.args.nodes
some c = omega arith

few : (c : After-leaf_bases-bases) → c.args.nodes ≤ 4096
few c = omega arith

-- the words that the nodes need
words : (c : After-leaf_bases-bases) → (c.args.nodes + 1) * (40 + get_or c.leaf_bases-bases.result c.args.task.now.leaves 0) ≡ table_words c.args.task.now c.args.nodes
words c = let c = c in words_is c.args.task.now c.leaf_bases-bases.result c.leaf_bases-bases.ensures c.args.nodes

small : (c : After-leaf_bases-bases) → table_words c.args.task.now c.args.nodes ≤ 4359208
small c = let c = c in words_few c.args.task.now c.requires c.args.nodes (few c)

-- S by the tables
row : (c : After-leaf_bases-bases) → get_or c.leaf_bases-bases.result c.args.task.now.leaves 0 ≡ all_states c.args.task.now
row c = row_of c.args.task.now c.leaf_bases-bases.result c.leaf_bases-bases.ensures

pub returns-then-nodes-eq0 : goal.returns-then-nodes-eq0
returns-then-nodes-eq0 c =
    task_none c.args.task.now c.args.nodes c.args.budget c.args.plan.now c.args.table.now c.if-nodes-eq0.true

pub returns-then-nodes-gt4096 : goal.returns-then-nodes-gt4096
returns-then-nodes-gt4096 c =
    task_many c.args.task.now c.args.nodes c.args.budget c.args.plan.now c.args.table.now (omega (arith, c.if-nodes-gt4096.true))

pub overflow_add-bases : goal.overflow_add-bases
overflow_add-bases c = omega (arith, row (goal.at.overflow_add-bases c).After-leaf_bases-bases)

pub overflow_mul-many : goal.overflow_mul-many
overflow_mul-many c = omega (arith, words (goal.at.overflow_mul-many c).After-leaf_bases-bases, small (goal.at.overflow_mul-many c).After-leaf_bases-bases)

pub returns-then-table-many : goal.returns-then-table-many
returns-then-table-many c =
    task_short c.args.task.now c.args.nodes c.args.budget c.args.plan.now c.args.table.now (some (goal.at.returns-then-table-many c).After-leaf_bases-bases) (few (goal.at.returns-then-table-many c).After-leaf_bases-bases) (omega (arith, words (goal.at.returns-then-table-many c).After-leaf_bases-bases, c.if-table-many.true))

pub search_task-requires : goal.search_task-requires
search_task-requires c =
    record { valid = c.requires; bases = (c.leaf_bases-bases.ensures, some (goal.at.search_task-requires c).After-leaf_bases-bases, few (goal.at.search_task-requires c).After-leaf_bases-bases, omega (arith, words (goal.at.search_task-requires c).After-leaf_bases-bases, c.if-table-many.false)) }

pub returns : goal.returns
returns c =
    task_searched c.args.task.now c.args.nodes c.args.budget c.args.plan.now c.args.table.now (some (goal.at.returns c).After-leaf_bases-bases) (few (goal.at.returns c).After-leaf_bases-bases) (omega (arith, words (goal.at.returns c).After-leaf_bases-bases, c.if-table-many.false)) c.search_task.ensures
