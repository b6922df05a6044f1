-- What the answers mean: the number of each refusal, and what a reading function says of the record.
pub mod Laws
use Rattle.std.specs.Prelude.{ℕ, Result, Ok, Err}
use Rattle.loops.specs.Parsed.{Parsed, got, refused}
use Rattle.fields.specs.declared.Refusal.{Refusal}
use Rattle.fields.specs.declared.Refusal.TheVariants.{
  RecordEnds,
  SizeOne,
  FactorUnknown,
  InitialOutside,
  PairVariable,
  PairValue,
  NoEffects,
  NotFilled,
  FactorEmpty,
  TooManyStates,
  NotStar,
}

-- "1 record ends inside a field. 2 size of 1. 3 factor above the number of leaves. 4 initial value outside its size. 5 a pair's variable
-- unknown or not above the one before. 6 a pair's value outside its size. 7 no effects. 8 fill bits not zero, or bytes left over. 9 centre
-- or a leaf without variables, 10 too many leaf states, 11 an action that is neither centre nor leaf action."
abbrev pub number_of : Refusal → ℕ
number_of RecordEnds = 1
number_of SizeOne = 2
number_of FactorUnknown = 3
number_of InitialOutside = 4
number_of PairVariable = 5
number_of PairValue = 6
number_of NoEffects = 7
number_of NotFilled = 8
number_of FactorEmpty = 9
number_of TooManyStates = 10
number_of NotStar = 11

-- reading from a record: the source is the bit that is reached
abbrev pub Reading : Type 0 → Type 0
Reading A = Parsed Refusal ℕ A

-- what was read and the bit behind it, or the refusal
abbrev pub told : {A : Type 0} → Result A Refusal → ℕ → Reading A
told (Ok a) at = got a at
told (Err why) at = refused why

-- the same of what was read into something that was lent, which is a afterwards
abbrev pub told_in : {A : Type 0} → A → Result (Unit {0}) Refusal → ℕ → Reading A
told_in a (Ok done) at = got a at
told_in a (Err why) at = refused why
