-- `pricer::prices` meets its contract: what the reader accepts is priced, and what the answer says of sequences follows. Assumes nothing.
use Rattle.std.proofs.Common.{ap, sym, ◌∙◌}
use Rattle.std.proofs.lemmas.Result.{err_from_is_err_and}
use Rattle.record.specs.Record.{TaskRead, read_told}
use Rattle.pricer.specs.Pricer.Laws.{record_refused, record_accepted, outcome_says}
use Rattle.pricer.proofs.prices.Goals as goal

pub returns-in_err-task : goal.returns-in_err-task
returns-in_err-task c =
    let s = c.args in
    let told = outcome_says s.«record».now s.path.now s.out.now _ _ (record_refused s.«record».now s.path.now s.out.now (ap (λ (r : TaskRead). r.verdict) (sym c.in_err-task.ensures.answer))) in
    let p = err_from_is_err_and c.from_residual.result c.from_residual.ensures.1 in
    rw (p.1, p.2) (record { answer = told.0; decided = told.1.0; priced = told.1.1.0; untouched = told.1.1.1.0; count = told.1.1.1.1 })

pub returns : goal.returns
returns c =
    let s = c.args in
    let told = outcome_says s.«record».now s.path.now s.out.now _ _
    (record_accepted s.«record».now s.path.now s.out.now c.in_ok-task.ensures.answer c.price_task.ensures) in
    record { answer = told.0; decided = told.1.0; priced = told.1.1.0; untouched = told.1.1.1.0; count = told.1.1.1.1 }
