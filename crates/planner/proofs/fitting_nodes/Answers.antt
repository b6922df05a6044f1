-- `planner::fitting_nodes` meets its contract: as many nodes as fit a task that the reader accepted. Assumes nothing.
use Rattle.std.proofs.Common.{ap, sym}
use Rattle.record.specs.Record.{TaskRead}
use Rattle.planner.specs.Planner.Answers.{nodes_refused, nodes_accepted}
use Rattle.planner.proofs.fitting_nodes.Goals as goal

pub returns-in-Ok : goal.returns-in-Ok
returns-in-Ok c = nodes_accepted c.args.«record».now c.args.words c.in-Ok.ensures.answer c.task_nodes.ensures

pub returns-in-Err : goal.returns-in-Err
returns-in-Err c = nodes_refused c.args.«record».now c.args.words (ap (λ (r : TaskRead). r.verdict) (sym c.in-Err.ensures.answer))
