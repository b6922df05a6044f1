-- The verdict on a task: it is accepted, or its record is refused; and the verdict that an answer of the code stands for.
use Rattle.std.specs.Prelude.{Result, Ok, Err}
use Rattle.fields.specs.declared.Refusal.{Refusal}

pub data Verdict : Type 0 where
  Accepted : Verdict
  Refused : Refusal → Verdict

abbrev pub verdict_told : {A : Type 0} → Result A Refusal → Verdict
verdict_told (Ok x) = Accepted
verdict_told (Err why) = Refused why
