-- What a record reads as: its task, or one refusal in the written order: 1 to 7 field by field, 8, then 9, 10, 11 over the whole.
pub mod Laws
use Rattle.std.specs.Prelude.{Bool, cond, ◌&&◌, List, ℕ, ◌+◌, ◌-◌, ◌*◌, ◌/◌, eqb, Result, Ok, Err}
use Rattle.loops.specs.Parsed.{got, refused}
use Rattle.task.specs.declared.Task.{Task}
use Rattle.task.specs.Meaning.{Partial, size, factor, condition, effect}
use Rattle.fields.specs.declared.Refusal.{Refusal}
use Rattle.fields.specs.declared.Refusal.TheVariants.{NotFilled}
use Rattle.fields.specs.Answers.{number_of, Reading}
use Rattle.fields.specs.Fields.{field_of, next_field, ends_at}
use Rattle.parts.specs.Grammar.{no_lists, task_with, task_of}
use Rattle.whole.specs.Verdict.{Verdict, Accepted, Refused}
use Rattle.whole.specs.Whole.{whole_of}

-- ---- the verdict

-- "Zero bits fill the last byte; nothing follows": the fields end at bit k
unfoldable pub filled_of : List ℕ → ℕ → Bool
filled_of rec k = ends_at rec k && eqb (field_of rec k ((k + 7) / 8 * 8 - k)) 0

-- 8, then what is tested over the whole
abbrev pub verdict_of : List ℕ → ℕ → ℕ → ℕ → ℕ → (ℕ → ℕ) → (ℕ → ℕ) → (ℕ → Partial) → (ℕ → Partial) → Verdict
verdict_of rec k variables leaves actions siz fac con eff =
    cond (filled_of rec k) (whole_of variables leaves actions siz fac con eff) (Refused NotFilled)

abbrev pub task_verdict : List ℕ → ℕ → Task → Verdict
task_verdict rec k t = verdict_of rec k t.variables t.leaves t.actions (size t) (factor t) (condition t) (effect t)

-- ---- the answer

-- what reading a record gives: the verdict and, where it is "accepted", the task; else a blank one
pub record TaskRead : Type 0 where
  pub verdict : Verdict
  pub task : Task

-- the verdict in numbers: the refusal's, and 0 for "accepted", which has none
abbrev pub verdict_number : Verdict → ℕ
verdict_number Accepted = 0
verdict_number (Refused why) = number_of why

-- beside a refusal stands a blank task
abbrev pub no_task : Task
no_task = task_with 0 0 0 no_lists

abbrev pub refused_for : Refusal → TaskRead
refused_for why = record { verdict = Refused why; task = no_task }

-- the same as the code answers it: the task, or why the record is refused
abbrev pub read_told : Result Task Refusal → TaskRead
read_told (Ok t) = record { verdict = Accepted; task = t }
read_told (Err why) = refused_for why

-- the task goes with the verdict "accepted"
abbrev pub answer_for : Verdict → Task → TaskRead
answer_for Accepted t = record { verdict = Accepted; task = t }
answer_for (Refused why) t = refused_for why

abbrev pub answer_of : {A : Type 0} → Reading A → (A → ℕ → TaskRead) → TaskRead
answer_of (got a k) next = next a k
answer_of (refused why) next = refused_for why

-- what is answered on a task that was read up to bit k
abbrev pub answer_at : List ℕ → Task → ℕ → TaskRead
answer_at rec t k = answer_for (task_verdict rec k t) t

-- what a record reads as
unfoldable pub read_record : List ℕ → TaskRead
read_record rec = answer_of (task_of (next_field rec) 0) λ t k. answer_at rec t k
