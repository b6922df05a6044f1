-- `tables::kind_of` meets its contract. The invariant: the pairs are a leaf action's of no leaf so far; they do not touch the centre, so some
-- leaf is left. Assumes nothing.
use Rattle.std.proofs.Common.{◌≡◌, false, suc, ◌≤◌}
use Rattle.loops.specs.Count.{any}
use Rattle.task.specs.Factors.{leaf_pairs}
use Rattle.digits.specs.Digits.{entries}
use Rattle.tables.proofs.kind_of.Given as goal

abbrev pub invariant-loop-i : goal.invariant-loop-i
invariant-loop-i l =
    (l.i ≤ l.leaves) × (any l.i (λ k. leaf_pairs l.pairs.variables (entries l.pairs.factors.now) (entries l.pairs.conditions.now) (entries l.pairs.effects.now) (suc k)) ≡ false)
