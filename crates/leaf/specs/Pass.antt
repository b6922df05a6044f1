-- Passing a leaf's prices over a centre action: "every reachable state that meets the conditions passes, changed by the effects, at its own
-- price; where two meet, the lower counts."
pub mod Laws
pub mod Turns
use Rattle.std.specs.Prelude.{List, ℕ, zero, suc, get_or, replicate}
use Rattle.leaf.specs.Settle.{lower}

-- the prices of the n states behind the action, after the states below i have passed; `thr x` is one more than what the action makes of x, or 0
unfoldable pub pass : ℕ → ℕ → (ℕ → ℕ) → List ℕ → ℕ → List ℕ
pass M n thr P zero = replicate n M
pass M n thr P (suc x) = lower M (pass M n thr P x) (thr x) (get_or P x M)
