-- `layer::is_met` meets its contract. The invariant: the flag tells whether the pairs on the first v variables hold. Assumes nothing.
use Rattle.std.proofs.Common.{◌≡◌, Bool, not, ◌||◌, List, ℕ, ◌+◌, ◌*◌, ◌-◌, ◌≤◌, eqb, get_or}
use Rattle.loops.specs.Count.{all}
use Rattle.task.specs.declared.Centre.{Centre}
use Rattle.task.specs.Meaning.{met}
use Rattle.task.specs.Centre.{value_in}
use Rattle.layer.proofs.is_met.Given as goal

-- the pair on a variable, if it is the centre's, holds
abbrev pub pair : List ℕ → ℕ → List ℕ → Centre → ℕ → Bool
pair conditions action factors centre v = not (eqb (get_or factors v 0) 0) || met (get_or conditions (action * 32 + v) 0) (value_in centre v)

abbrev pub invariant-loop-v : goal.invariant-loop-v
invariant-loop-v l = (l.v ≤ 32) × (l.holds ≡ all l.v (pair l.conditions l.action l.factors l.centre))

abbrev pub decreases-loop-v : goal.decreases-loop-v
decreases-loop-v l = 32 - l.v
