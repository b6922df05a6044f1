-- After the first sweep no price is above its start price, each is what a walk costs, and no action leads from a
-- clean state to one at less than its price; the invariant: that stays so. The sum of the prices falls with each turn.
use Rattle.std.proofs.Common.{◌≡◌, List, ℕ, length}
use Rattle.leaf.specs.Price.{mark}
use Rattle.leaf.specs.Settle.Sweeps.{total, Sweeping}
use Rattle.settle.proofs.settle_by.Given as goal

abbrev pub invariant-loop-dirty : goal.invariant-loop-dirty
invariant-loop-dirty g l = let n = length l.initial.prices in record {
  prices_kept : length l.prices ≡ n;
  dirty_kept : length l.dirty ≡ 256;
  keeps : (m : ℕ) (cost : ℕ → ℕ) (to : ℕ → ℕ → ℕ) → g.A.LeafActions.meant l.actions n m cost to
      → (P : List ℕ) → Sweeping mark n m cost to n P l.initial.prices l.initial.dirty → Sweeping mark n m cost to n P l.prices l.dirty;
}

abbrev pub decreases-loop-dirty : goal.decreases-loop-dirty
decreases-loop-dirty g l = total l.prices
