-- The centre state: the values of the centre's variables. Follows "Prices and layers": "A centre state takes an action's effects and is the
-- next centre state."
use Rattle.std.specs.Prelude.{Bool, cond, ◌&&◌, ℕ, eqb, get_or, replicate}
use Rattle.loops.specs.Count.{list}
use Rattle.task.specs.declared.Task.{Task}
use Rattle.task.specs.declared.Centre.{Centre}
use Rattle.task.specs.Meaning.{State, Partial, factor}
use Rattle.task.specs.Factors.{named, holds_in}

-- the value of each variable in a centre state, 0 where it is no centre variable
abbrev pub value_in : Centre → State
value_in c v = get_or c.values v 0

abbrev pub blank_centre : Centre
blank_centre = record { values = replicate 32 0 }

-- the centre part of a state, by the variables' factors
unfoldable pub centre_of : (ℕ → ℕ) → State → Centre
centre_of fac s = record { values = list 32 (λ v. cond (eqb (fac v) 0) (s v) 0) }

-- the next centre state: centre variables that the effects q name take their values, all others keep theirs
unfoldable pub centre_after : (ℕ → ℕ) → Partial → Centre → Centre
centre_after fac q c = record { values = list 32 (λ v. cond (eqb (fac v) 0 && named (q v)) (q v) (value_in c v)) }

-- the pairs p on centre variables hold in the centre state
unfoldable pub centre_meets : (ℕ → ℕ) → Partial → Centre → Bool
centre_meets fac p c = holds_in 32 fac 0 p (value_in c)

-- the centre part of a task's state
abbrev pub centre : Task → State → Centre
centre t s = centre_of (factor t) s
