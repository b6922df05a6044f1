-- `stills::still_leaves` meets its contract. The invariant: it holds of the entries so far. Assumes nothing.
use Rattle.std.proofs.Common.{◌≡◌, ◌*◌, ◌++◌, take, drop, replicate}
use Rattle.loops.specs.Count.{list}
use Rattle.stills.specs.Still.{still_entry}
use Rattle.stills.proofs.still_leaves.Given as goal

abbrev pub invariant-loop-k : goal.invariant-loop-k
invariant-loop-k l = l.stays-items ≡ list l.k (still_entry l.board.leaves l.board.bases.now l.board.moves.now) ++ drop l.k (take (l.board.actions * 8) (replicate 2048 0))
