-- `mets::is_known` meets its contract. The invariant: where all was the same so far, the values are. Assumes nothing.
use Rattle.std.proofs.Common.{◌≡◌, true, ℕ, ◌+◌, ◌<◌, get_or}
use Rattle.mets.proofs.is_known.Given as goal

abbrev pub invariant-loop-v : goal.invariant-loop-v
invariant-loop-v l = l.same ≡ true → (k : ℕ) → k < l.v → get_or l.slot (256 + k) 0 ≡ get_or l.values k 0
