-- `steps::put` meets its contract: after v turns the first v values are written. Assumes nothing.
use Rattle.std.proofs.Common.{◌≡◌, List, ◌++◌, ℕ, get_or, drop}
use Rattle.loops.specs.Count.{list}
use Rattle.task.specs.Meaning.{put}
use Rattle.steps.proofs.put.Given as goal

-- the values behind the effects
abbrev pub behind : List ℕ → List ℕ → ℕ → ℕ
behind pairs values = put (λ v. get_or pairs v 0) (λ v. get_or values v 0)

abbrev pub invariant-loop-v : goal.invariant-loop-v
invariant-loop-v l = l.values ≡ list l.v (behind l.pairs l.initial.values) ++ drop l.v l.initial.values
