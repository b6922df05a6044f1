-- Where the numbers lie. Assumes nothing.
use Rattle.std.specs.Prelude.{◌≤◌}
use Rattle.std.proofs.Common.{arith}
use Rattle.fields.specs.Answers.{number_of}
use Rattle.fields.specs.declared.Refusal.{Refusal}
use Rattle.fields.specs.declared.Refusal.TheVariants.{
  RecordEnds,
  SizeOne,
  FactorUnknown,
  InitialOutside,
  PairVariable,
  PairValue,
  NoEffects,
  NotFilled,
  FactorEmpty,
  TooManyStates,
  NotStar,
}

-- a record's refusals are 1 to 11
pub record_number : (r : Refusal) → (1 ≤ number_of r) × (number_of r ≤ 11)
record_number RecordEnds = (omega arith, omega arith)
record_number SizeOne = (omega arith, omega arith)
record_number FactorUnknown = (omega arith, omega arith)
record_number InitialOutside = (omega arith, omega arith)
record_number PairVariable = (omega arith, omega arith)
record_number PairValue = (omega arith, omega arith)
record_number NoEffects = (omega arith, omega arith)
record_number NotFilled = (omega arith, omega arith)
record_number FactorEmpty = (omega arith, omega arith)
record_number TooManyStates = (omega arith, omega arith)
record_number NotStar = (omega arith, omega arith)
