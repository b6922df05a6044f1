-- `digits::grow` meets its contract. The invariant: the states from x on have a digit more, and those below x wait in their places. Assumes nothing.
use Rattle.std.proofs.Common.{◌≡◌, ◌+◌, ◌*◌, ◌≤◌, length}
use Rattle.digits.specs.Digits.{Same, Growing}
use Rattle.digits.proofs.grow.Given as goal

abbrev pub invariant-loop-x : goal.invariant-loop-x
invariant-loop-x l =
    (l.x ≤ l.states) × (length l.moves ≡ length l.initial.moves) × Same l.from (l.from + l.states * l.size) l.initial.moves l.moves × Growing l.from l.states l.size l.condition l.effect l.initial.moves l.x l.moves
