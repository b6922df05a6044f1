-- `planner::plan` meets its contract: what the reader accepts is planned, and what the answer says of sequences follows. Assumes nothing.
use Rattle.std.proofs.Common.{ap, sym, ◌∙◌}
use Rattle.answers.specs.declared.PlanRefusal.{PlanRefusal}
use Rattle.answers.specs.declared.PlanAnswer.TheVariants.{Refused}
use Rattle.record.specs.Record.{TaskRead}
use Rattle.solve.specs.Solve.{unwritten}
use Rattle.planner.specs.Planner.{no_counts}
use Rattle.planner.specs.Planner.Answers.{record_refused, record_accepted, outcome_says}
use Rattle.planner.proofs.plan.Goals as goal

pub returns-in-Ok : goal.returns-in-Ok
returns-in-Ok c =
    let s = c.args in
    let m = outcome_says s.«record».now s.nodes s.budget s.plan.now s.table.now _ _ _
    (record_accepted s.«record».now s.nodes s.budget s.plan.now s.table.now c.in-Ok.ensures.answer c.plan_task.ensures) in
    record { answer = m.0; carries_out = m.1.0; least_cost = m.1.1.0; decided = m.1.1.1.0; untouched = m.1.1.1.1.0; zeroed = m.1.1.1.1.1 }

pub returns-in-Err : goal.returns-in-Err
returns-in-Err c =
    let s = c.args in
    let m = outcome_says s.«record».now s.nodes s.budget s.plan.now s.table.now _ _ _
    (ap (λ (r : PlanRefusal). unwritten (Refused r no_counts) s.plan.now s.table.now) c.from.ensures
    ∙ record_refused s.«record».now s.nodes s.budget s.plan.now s.table.now (ap (λ (r : TaskRead). r.verdict) (sym c.in-Err.ensures.answer))) in
    record { answer = m.0; carries_out = m.1.0; least_cost = m.1.1.0; decided = m.1.1.1.0; untouched = m.1.1.1.1.0; zeroed = m.1.1.1.1.1 }
