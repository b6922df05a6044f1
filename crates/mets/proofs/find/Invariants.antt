-- `mets::find` meets its contract. The invariant: the flags of the actions so far are right. Assumes nothing.
use Rattle.std.proofs.Common.{◌≡◌, ℕ, ◌<◌, cond, get_or}
use Rattle.layer.specs.Board.{met_on}
use Rattle.layer.specs.First.{asks_of}
use Rattle.mets.proofs.find.Given as goal

abbrev pub invariant-loop-a : goal.invariant-loop-a
invariant-loop-a l = (k : ℕ) → k < l.a → get_or l.flag-items k 0 ≡ cond (met_on (asks_of l.actions l.factors l.conditions) l.centre k) 1 0
