-- `digits::fill_leaf` meets its contract. The invariant: what the action makes of each state by the variables so far stands in the entries from `from` on,
-- and all others of the list are as they were. Assumes nothing.
use Rattle.std.proofs.Common.{◌≡◌, ◌+◌, ◌≤◌, length}
use Rattle.digits.specs.Digits.{Same}
use Rattle.digits.specs.Paired.{counted, partly}
use Rattle.digits.proofs.fill_leaf.Given as goal

abbrev pub invariant-loop-v : goal.invariant-loop-v
invariant-loop-v l =
    (l.v ≤ l.pairs.variables) × (length l.moves ≡ length l.initial.moves) × Same l.from (l.from + counted l.pairs l.leaf) l.initial.moves l.moves × partly l.pairs l.leaf l.from l.v l.states l.moves
