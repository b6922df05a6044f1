-- Passing a leaf's prices, a state at a time. Assumes nothing.
use Rattle.std.specs.Prelude.{◌≡◌, List, ℕ, ◌+◌, ◌<◌, length, get_or}
use Rattle.std.proofs.Common.{add-one}
use Rattle.leaf.specs.Settle.{lower}
use Rattle.leaf.specs.Settle.Turns.{at_any}
use Rattle.leaf.specs.Pass.{pass}

-- a turn of the loop
pub pass_more : (M n : ℕ) (thr : ℕ → ℕ) (P Q : List ℕ) (x : ℕ) → x < length P → Q ≡ pass M n thr P x
    → lower M Q (thr x) (get_or P x 0) ≡ pass M n thr P (x + 1)
unfolding pass
pass_more M n thr P Q x h e = rw (add-one, pass, ← e, at_any P x M 0 h)
