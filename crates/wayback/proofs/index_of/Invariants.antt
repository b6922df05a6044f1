-- `wayback::index_of` meets its contract. The invariant: the actions from the j-th on have their index. Assumes nothing.
use Rattle.std.proofs.Common.{◌≡◌, ◌≤◌, length}
use Rattle.wayback.specs.Woven.{IndexedFrom}
use Rattle.wayback.proofs.index_of.Given as goal

abbrev pub invariant-loop-j : goal.invariant-loop-j
invariant-loop-j l = (l.j ≤ length l.acts) × (length l.index ≡ 256) × IndexedFrom l.acts l.j (length l.acts) l.index
