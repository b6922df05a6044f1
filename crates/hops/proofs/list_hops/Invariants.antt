-- `hops::list_hops` meets its contract. The invariant: the actions so far have their words. Assumes nothing.
use Rattle.std.proofs.Common.{◌≡◌, ◌++◌, take, drop, replicate}
use Rattle.loops.specs.Count.{list}
use Rattle.hops.specs.Hops.{hop_word}
use Rattle.hops.proofs.list_hops.Given as goal

abbrev pub invariant-loop-a : goal.invariant-loop-a
invariant-loop-a l =
    l.word-items
    ≡ list l.a (hop_word l.board.kinds.now l.board.conditions.now l.effects l.firsts l.still) ++ drop l.a (take l.board.actions (replicate 256 0))
