-- `stills::still_actions` meets its contract. The invariant: it holds of the actions so far. Assumes nothing.
use Rattle.std.proofs.Common.{◌≡◌, ◌++◌, take, drop, replicate}
use Rattle.loops.specs.Count.{list}
use Rattle.stills.specs.Still.{still_by}
use Rattle.stills.proofs.still_actions.Given as goal

abbrev pub invariant-loop-a : goal.invariant-loop-a
invariant-loop-a l = l.stays-items ≡ list l.a (still_by l.board.leaves l.stills) ++ drop l.a (take l.board.actions (replicate 256 0))
