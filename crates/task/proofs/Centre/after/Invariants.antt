-- The loop's invariant: the first v values are those of the next centre state, the others are as they were. Assumes nothing.
use Rattle.std.proofs.Common.{◌≡◌, cond, ◌&&◌, List, ◌++◌, ℕ, eqb, get_or, drop}
use Rattle.loops.specs.Count.{list}
use Rattle.task.specs.Factors.{named}
use Rattle.task.proofs.Centre.after.Given as goal

-- the next centre state's value of a variable
abbrev pub entry : List ℕ → List ℕ → List ℕ → ℕ → ℕ
entry factors effects before v = cond (eqb (get_or factors v 0) 0 && named (get_or effects v 0)) (get_or effects v 0) (get_or before v 0)

abbrev pub invariant-loop-v : goal.invariant-loop-v
invariant-loop-v l = l.value-items ≡ list l.v (entry l.factors l.effects l.fn.self.values) ++ drop l.v l.fn.self.values
