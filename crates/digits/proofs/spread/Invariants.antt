-- `digits::spread` meets its contract. The invariant: the first entries are what the action makes of the state with each value so far. Assumes nothing.
use Rattle.digits.specs.Moves.{digit_move}
use Rattle.digits.specs.Digits.{Filled}
use Rattle.digits.proofs.spread.Given as goal

abbrev pub invariant-loop-digit : goal.invariant-loop-digit
invariant-loop-digit l = Filled l.digit (digit_move l.k l.size l.condition l.effect) l.entry-items
