-- `solve::answer_of` meets its contract: a full table and a spent budget are refused, and a search that has finished is answered. Assumes nothing.
use Rattle.std.proofs.Common.{◌∙◌}
use Rattle.solve.specs.Solve.Stops.{stop_full, stop_spent, stop_finished}
use Rattle.solve.proofs.answer_of.Goals as goal

pub returns-in-TableFull : goal.returns-in-TableFull
returns-in-TableFull c =
    stop_full c.args.tables.now.task.now c.args.table.now c.args.stop c.args.plan.now c.in-TableFull.is

pub returns-in-BudgetSpent : goal.returns-in-BudgetSpent
returns-in-BudgetSpent c =
    stop_spent c.args.tables.now.task.now c.args.table.now c.args.stop c.args.plan.now c.in-BudgetSpent.is

pub returns-in-Finished : goal.returns-in-Finished
returns-in-Finished c =
    c.finish.ensures ∙ stop_finished c.args.tables.now.task.now c.args.table.now c.args.stop c.args.plan.now c.in-Finished.is
