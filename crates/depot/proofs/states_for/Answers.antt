-- `depot::states_for` meets its contract: S of a task that the reader accepted. Assumes nothing.
use Rattle.std.proofs.Common.{ap, sym, ◌∙◌}
use Rattle.record.specs.Record.{TaskRead}
use Rattle.task.specs.Factors.{all_states}
use Rattle.depot.specs.Depot.{for_nodes}
use Rattle.depot.specs.Depot.Laws.{record_none, record_some}
use Rattle.depot.proofs.states_for.Goals as goal

pub returns-in-Ok : goal.returns-in-Ok
returns-in-Ok c =
    let s = c.args in
    let read = c.in-Ok.ensures.answer in
    record_some (λ s. s) s.«record».now s.nodes (sym (ap (λ (r : TaskRead). r.verdict) read))
    (c.task_states.ensures ∙ ap (λ (r : TaskRead). for_nodes (λ s. s) (all_states r.task) s.nodes) read)

pub returns-in-Err : goal.returns-in-Err
returns-in-Err c = record_none (λ s. s) c.args.«record».now c.args.nodes (sym (ap (λ (r : TaskRead). r.verdict) c.in-Err.ensures.answer))
