-- `words::copy_words` meets its contract: after i turns the first i words are copied. Assumes nothing.
use Rattle.std.proofs.Common.{◌≤◌, ◌-◌, ◌≡◌, ◌++◌, length, take, drop}
use Rattle.words.proofs.copy_words.Given as goal

abbrev pub invariant-loop-i : goal.invariant-loop-i
invariant-loop-i l = (l.i ≤ l.count) × (length l.into ≡ length l.initial.into) × (l.into ≡ take l.i l.from ++ drop l.i l.initial.into)

abbrev pub decreases-loop-i : goal.decreases-loop-i
decreases-loop-i l = l.count - l.i
