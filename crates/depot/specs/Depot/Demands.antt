-- The demands in the numbers and words that a controller takes. Definitions alone.
use Rattle.std.specs.Prelude.{◌≡◌, ◌↔◌, List, ℕ, ◌≤◌, ◌<◌, length}
use Rattle.answers.specs.declared.Told.{Told}
use Rattle.planner.specs.Planner.Demands.{Call, Given, Meets}
use Rattle.depot.specs.Depot.{answered}

-- a number, and the words of `answer` before and after: they tell an answer that meets the planner's demands. Where `answer` has four words its values
-- stand there; where it is shorter there still are such values.
pub record Said (c : Call) (again : List ℕ → Given) (number : ℕ) (before after plan words : List ℕ) : Type 0 where
  pub told : Told
  pub number_is : told.number ≡ number
  pub values : after ≡ answered told before
  pub meets : Meets c again (record { told = told; plan = plan; words = words })

-- a call is refused before a table or a buffer is looked at: 1 to 11, or 20
abbrev pub RefusedEarly : ℕ → Type 0
RefusedEarly number = (1 ≤ number) × (number ≤ 20)

-- so many words are just enough; `number` is what the planner answers with a table: 0 exactly where it refuses whatever is lent; a table of that length
-- is never refused 21, and a shorter one always is
pub record JustEnough (words : ℕ) (number : List ℕ → ℕ) : Type 0 where
  pub none : (table : List ℕ) → (words ≡ 0) ↔ RefusedEarly (number table)
  pub short : (table : List ℕ) → (number table ≡ 21) ↔ (length table < words)

-- so many bytes are enough; `number` is what the planner answers with a plan buffer: 0 exactly where it refuses whatever is lent; a buffer of that
-- length or longer is never refused 24
pub record Enough (bytes : ℕ) (number : List ℕ → ℕ) : Type 0 where
  pub none : (plan : List ℕ) → (bytes ≡ 0) ↔ RefusedEarly (number plan)
  pub fits : (plan : List ℕ) → bytes ≤ length plan → number plan ≡ 24 → ⊥
