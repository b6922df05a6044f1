-- The invariant: the states below x were visited.
use Rattle.std.proofs.Common.{◌≡◌, ◌≤◌, length}
use Rattle.settle.specs.Settling.{SweptBy}
use Rattle.settle.proofs.sweep.Given as goal

abbrev pub invariant-loop-x : goal.invariant-loop-x
invariant-loop-x g l = let n = length l.initial.prices in record {
  within : l.x ≤ n;
  prices_kept : length l.prices ≡ n;
  dirty_kept : length l.dirty ≡ length l.initial.dirty;
  swept : SweptBy (g.A.LeafActions.meant l.actions n) n n n 0 l.x l.initial.prices l.initial.dirty l.fell l.prices l.dirty;
}
