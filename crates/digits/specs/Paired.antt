-- The words of the moves over the variables and pairs that a program holds together.
pub mod Laws
use Rattle.std.specs.Prelude.{List, ℕ, ◌*◌}
use Rattle.task.specs.Factors.{states_to}
use Rattle.digits.specs.declared.pairs.Pairs.{Pairs}
use Rattle.digits.specs.Moves.{Small, to_with}
use Rattle.digits.specs.Digits.{entries, entries_from, Partly, Rows, start_of}

-- how many states leaf l has
abbrev pub counted : Pairs → ℕ → ℕ
counted p l = states_to (entries p.factors.now) (entries p.sizes.now) l p.variables

-- where the states of the leaf behind i leaves begin
abbrev pub begins : Pairs → ℕ → ℕ
begins p i = start_of p.variables (entries p.factors.now) (entries p.sizes.now) i

-- what the action makes of state x of leaf l
abbrev pub moved : Pairs → ℕ → ℕ → ℕ
moved p l x = to_with p.variables (entries p.factors.now) (entries p.sizes.now) (entries p.conditions.now) (entries p.effects.now) l x

-- each effect has a value of its variable, and leaf l has few states
abbrev pub small : Pairs → ℕ → Type 0
small p l = Small p.variables (entries p.factors.now) (entries p.sizes.now) (entries p.effects.now) l

-- by its first v variables leaf l has s states, and what the action makes of each stands in the entries from `from` on
abbrev pub partly : Pairs → ℕ → ℕ → ℕ → ℕ → List ℕ → Type 0
partly p l from v s xs = Partly (entries p.factors.now) (entries p.sizes.now) (entries p.conditions.now) (entries p.effects.now) l from v s xs

-- where the pairs are those of all actions, 32 each: a row for each action below m
abbrev pub rows_of : Pairs → ℕ → ℕ → List ℕ → Type 0
rows_of p leaves m xs =
    Rows p.variables (entries p.factors.now) (entries p.sizes.now) (λ a. entries_from (a * 32) p.conditions.now) (λ a. entries_from (a * 32) p.effects.now) leaves m xs
