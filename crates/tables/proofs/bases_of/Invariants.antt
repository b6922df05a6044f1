-- `tables::bases_of` meets its contract. The invariant: each entry up to the i-th counts the states of the leaves before, and the sum is the
-- last of them; no leaf has more than 256 states, so the cap leaves each count as it is. Assumes nothing.
use Rattle.std.proofs.Common.{◌≡◌, ◌+◌, ◌-◌, ◌≤◌, length}
use Rattle.digits.specs.Digits.{entries, Filled, start_of}
use Rattle.tables.proofs.bases_of.Given as goal

abbrev pub invariant-loop-i : goal.invariant-loop-i
invariant-loop-i l =
    (l.i ≤ l.leaves) × (length l.bases ≡ 9) × (l.sum ≡ start_of l.variables (entries l.factors) (entries l.sizes) l.i) × Filled (l.i + 1) (start_of l.variables (entries l.factors) (entries l.sizes)) l.bases

abbrev pub decreases-loop-i : goal.decreases-loop-i
decreases-loop-i l = l.leaves - l.i
