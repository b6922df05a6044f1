-- `whole::states_few` meets its contract. The invariant: each leaf so far has at most 256 states, and the sum is that of their counts, which
-- the cap leaves as they are. Assumes nothing.
use Rattle.std.proofs.Common.{◌≡◌, true, List, ℕ, suc, ◌-◌, ◌*◌, ◌≤◌, leb, length, get_or}
use Rattle.loops.specs.Count.{all, sum}
use Rattle.task.specs.Factors.{states_to}
use Rattle.whole.proofs.states_few.Given as goal

-- the states of leaf k + 1
abbrev pub count : List ℕ → List ℕ → ℕ → ℕ → ℕ
count sizes factors n k = states_to (λ v. get_or factors v 0) (λ v. get_or sizes v 0) (suc k) n

abbrev pub invariant-loop-i : goal.invariant-loop-i
invariant-loop-i l =
    (l.i ≤ l.leaves) × (l.together ≤ 256 * l.i) × (all l.i (λ k. leb (count l.sizes l.factors (length l.factors) k) 256) ≡ true) × (l.together ≡ sum l.i (count l.sizes l.factors (length l.factors)))

abbrev pub decreases-loop-i : goal.decreases-loop-i
decreases-loop-i l = l.leaves - l.i
