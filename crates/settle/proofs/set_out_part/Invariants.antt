-- The invariant: the states from `from` to x set out.
use Rattle.std.proofs.Common.{◌≡◌, ◌≤◌, length}
use Rattle.settle.specs.Settling.{SweptBy}
use Rattle.settle.proofs.set_out_part.Given as goal

abbrev pub invariant-loop-x : goal.invariant-loop-x
invariant-loop-x g l = let n = length l.initial.prices in record {
  up : l.from ≤ l.x;
  within : l.x ≤ l.end;
  prices_kept : length l.prices ≡ n;
  dirty_kept : length l.dirty ≡ length l.initial.dirty;
  swept : SweptBy (g.A.LeafActions.meant l.actions n) n l.from l.x l.from l.x l.initial.prices l.initial.dirty l.fell l.prices l.dirty;
}
