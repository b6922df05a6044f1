-- `record::read_record` meets its contract: a task is read, the record is filled, and the tests over the whole decide; what is accepted is valid. Assumes nothing.
use Rattle.std.proofs.Common.{◌≡◌, true, false, sym, arith}
use Rattle.std.proofs.lemmas.Result.{err_from_is_err_and}
use Rattle.loops.specs.Parsed.{refused, got}
use Rattle.fields.specs.Fields.{next_field}
use Rattle.parts.specs.Grammar.{task_of}
use Rattle.task.specs.Valid.{Valid}
use Rattle.whole.specs.Verdict.{Accepted}
use Rattle.whole.specs.Whole.{whole_task}
use Rattle.whole.specs.Whole.Laws.{whole_valid}
use Rattle.record.specs.Record.{filled_of}
use Rattle.record.specs.Record.Laws.{record_refused, record_open, record_filled, fields_valid}
use Rattle.record.proofs.read_record.Goals as goal
use Rattle.record.proofs.read_record.Goals.{In_ok-read_task, After-whole}

-- the task has been read
task_read : (c : In_ok-read_task) → task_of (next_field c.args.rec.now) 0 ≡ got c.read_task.new.into c.read_task.new.r.at
task_read c = rw (← c.new-r.ensures.0, ← c.new-r.ensures.1) c.in_ok-read_task.ensures.told

-- and nothing stands behind it
filled : (c : After-whole) → filled_of c.args.rec.now c.read_task.new.r.at ≡ true
unfolding filled_of
filled c = rw (← c.new-r.ensures.0, ← c.in_ok-read_task.ensures.same_record) (sym c.if-not-ended.ensures)

-- where the tests over the whole have passed, it is valid
valid : (c : In_ok-read_task) → Accepted ≡ whole_task c.read_task.new.into → Valid c.read_task.new.into
valid c e = record { fields = fields_valid c.args.rec.now (task_read c); whole = whole_valid c.read_task.new.into (sym e) }

pub returns-in_err-read_task-clause-answer : goal.returns-in_err-read_task-clause-answer
returns-in_err-read_task-clause-answer c =
    let p = err_from_is_err_and c.from_residual.result c.from_residual.ensures.1 in
    let e : task_of (next_field c.args.rec.now) 0 ≡ refused c.in_err-read_task.field-0.0 = rw (← c.new-r.ensures.0, ← c.new-r.ensures.1) c.in_err-read_task.ensures.told in
    rw (p.1, p.2) (sym (record_refused c.args.rec.now e))

pub returns-then-not-ended-clause-answer : goal.returns-then-not-ended-clause-answer
unfolding filled_of
returns-then-not-ended-clause-answer c =
    let e = task_read (goal.at.returns-then-not-ended-clause-answer c).In_ok-read_task in
    let f : filled_of c.args.rec.now c.read_task.new.r.at ≡ false =
    rw (← c.new-r.ensures.0, ← c.in_ok-read_task.ensures.same_record) (sym c.if-not-ended.ensures) in
    sym (record_open c.args.rec.now e f)

pub whole-requires : goal.whole-requires
whole-requires c =
    let v = fields_valid c.args.rec.now (task_read (goal.at.whole-requires c).In_ok-read_task) in
    omega (arith, v.few_variables, v.few_leaves)

pub returns-in_err-whole-clause-answer : goal.returns-in_err-whole-clause-answer
returns-in_err-whole-clause-answer c =
    let at = goal.at.returns-in_err-whole-clause-answer c in
    let p = err_from_is_err_and c.from_residual-in_err-whole.result c.from_residual-in_err-whole.ensures.1 in
    let e = record_filled c.args.rec.now (task_read at.In_ok-read_task) (filled at.After-whole) in
    rw (p.1, p.2, e, ← c.in_err-whole.ensures)

pub returns-clause-answer : goal.returns-clause-answer
returns-clause-answer c =
    let at = goal.at.returns-clause-answer c in
    let e = record_filled c.args.rec.now (task_read at.In_ok-read_task) (filled at.After-whole) in
    rw (e, ← c.in_ok-whole.ensures)

pub returns-clause-valid : goal.returns-clause-valid
returns-clause-valid c accepted = valid (goal.at.returns-clause-valid c).In_ok-read_task c.in_ok-whole.ensures

pub returns-clause-valid_task : goal.returns-clause-valid_task
returns-clause-valid_task c = valid (goal.at.returns-clause-valid_task c).In_ok-read_task c.in_ok-whole.ensures
