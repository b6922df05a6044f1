-- `digits::fill_rows` meets its contract. The invariant: the actions so far have their rows, the next row begins at `from`, and all other
-- entries of the list are as they were. Assumes nothing.
use Rattle.std.proofs.Common.{◌≡◌, ◌*◌, ◌≤◌, length}
use Rattle.digits.specs.Digits.{Same}
use Rattle.digits.specs.Paired.{begins, rows_of}
use Rattle.digits.proofs.fill_rows.Given as goal

abbrev pub invariant-loop-a : goal.invariant-loop-a
invariant-loop-a l =
    (l.a ≤ l.actions) × (length l.moves ≡ length l.initial.moves) × (l.from ≡ l.a * begins l.pairs l.leaves) × Same 0 (l.a * begins l.pairs l.leaves) l.initial.moves l.moves × rows_of l.pairs l.leaves l.a l.moves
