-- `digits::fill_action` meets its contract. The invariant: the leaves so far have what the action makes of their states, each behind the other,
-- and all other entries of the list are as they were. Assumes nothing.
use Rattle.std.proofs.Common.{◌≡◌, ◌+◌, ◌≤◌, length}
use Rattle.digits.specs.Digits.{entries, Same, Row}
use Rattle.digits.specs.Paired.{begins}
use Rattle.digits.proofs.fill_action.Given as goal

abbrev pub invariant-loop-i : goal.invariant-loop-i
invariant-loop-i l =
    (l.i ≤ length l.bases) × (length l.moves ≡ length l.initial.moves) × Same l.from (l.from + begins l.pairs l.i) l.initial.moves l.moves ×
    Row l.pairs.variables (entries l.pairs.factors.now) (entries l.pairs.sizes.now) (entries l.pairs.conditions.now) (entries l.pairs.effects.now) l.from l.i l.moves
