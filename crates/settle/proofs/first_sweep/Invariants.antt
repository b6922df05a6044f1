-- The invariant: the states below x set out.
use Rattle.std.proofs.Common.{◌≡◌, ◌-◌, ◌≤◌, length}
use Rattle.settle.specs.Settling.{SweptBy}
use Rattle.settle.proofs.first_sweep.Given as goal

abbrev pub invariant-loop-prices : goal.invariant-loop-prices
invariant-loop-prices g l = let n = length l.initial.prices in record {
  within : l.x ≤ n;
  prices_kept : length l.prices ≡ n;
  dirty_kept : length l.dirty ≡ length l.initial.dirty;
  swept : SweptBy (g.A.LeafActions.meant l.actions n) n 0 l.x 0 l.x l.initial.prices l.initial.dirty l.fell l.prices l.dirty;
}

abbrev pub decreases-loop-prices : goal.decreases-loop-prices
decreases-loop-prices g l = length l.initial.prices - l.x
