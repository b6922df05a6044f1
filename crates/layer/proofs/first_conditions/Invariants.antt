-- `layer::first_conditions` meets its contract. The invariant: the entries of the actions so far are right. Assumes nothing.
use Rattle.std.proofs.Common.{ℕ, ◌<◌, get_or}
use Rattle.layer.specs.First.{First}
use Rattle.layer.proofs.first_conditions.Given as goal

abbrev pub invariant-loop-a : goal.invariant-loop-a
invariant-loop-a l = (k : ℕ) → k < l.a → First l.board.factors l.board.conditions.now k (get_or l.first-items k 0)
