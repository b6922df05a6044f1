-- Each answer in numbers: this paper's number for the enum's case, and its values. 01: "Any answer that is an enum has a definition. The definition
-- gives this paper's number and values for each of the enum's cases, and the promises use it."
use Rattle.std.specs.Prelude.{ℕ, Result, Ok, Err}
use Rattle.fields.specs.Answers.{number_of}
use Rattle.answers.specs.declared.PlanRefusal.{PlanRefusal}
use Rattle.answers.specs.declared.PlanRefusal.TheVariants.{InRecord, NodesWrong, TableShort, TableFull, BudgetSpent, PlanLong}
use Rattle.answers.specs.declared.PlanAnswer.{PlanAnswer}
use Rattle.answers.specs.declared.PlanAnswer.TheVariants.{Solved, Unsolvable, Refused}
use Rattle.answers.specs.declared.PriceRefusal.{PriceRefusal}
use Rattle.answers.specs.declared.PriceRefusal.TheVariants.{InRecord as PriceInRecord, PathWrong, SliceShort, NotApplicable}
use Rattle.answers.specs.declared.Told.{Told}
use Rattle.answers.specs.declared.PricesTold.{PricesTold}

-- "20 nodes 0 or above 4,096. 21 working table too short. 22 table full. 23 budget spent. 24 plan longer than its buffer."
abbrev pub plan_refusal_number : PlanRefusal → ℕ
plan_refusal_number (InRecord why) = number_of why
plan_refusal_number NodesWrong = 20
plan_refusal_number TableShort = 21
plan_refusal_number TableFull = 22
plan_refusal_number BudgetSpent = 23
plan_refusal_number PlanLong = 24

-- "The answer gives plan length, cost, the number of expansions begun, and nodes kept. Unsolvable gives the last two." The paper gives numbers to
-- refusals alone: 0 is a plan and 255 "unsolvable". A value that an answer does not give is 0.
abbrev pub plan_told : PlanAnswer → Told
plan_told (Solved p c) = record { number = 0; length = p.length; cost = p.cost; expanded = c.expanded; kept = c.kept }
plan_told (Unsolvable c) = record { number = 255; length = 0; cost = 0; expanded = c.expanded; kept = c.kept }
plan_told (Refused why c) = record { number = plan_refusal_number why; length = 0; cost = 0; expanded = c.expanded; kept = c.kept }

-- "For paths: 12 longer than 4,095, or an entry not a centre action; 13 an entry that doesn't apply. 21 price slice too short."
abbrev pub price_refusal_number : PriceRefusal → ℕ
price_refusal_number (PriceInRecord why) = number_of why
price_refusal_number PathWrong = 12
price_refusal_number SliceShort = 21
price_refusal_number NotApplicable = 13

-- 0 for prices, and how many were written
abbrev pub price_told : Result ℕ PriceRefusal → PricesTold
price_told (Ok n) = record { number = 0; count = n }
price_told (Err why) = record { number = price_refusal_number why; count = 0 }
