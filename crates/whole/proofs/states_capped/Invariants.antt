-- `whole::states_capped` meets its contract. The invariant: the product so far is that of the variables so far, capped. Assumes nothing.
use Rattle.std.proofs.Common.{◌≡◌, min, length, get_or}
use Rattle.task.specs.Factors.{states_to}
use Rattle.whole.proofs.states_capped.Given as goal

abbrev pub invariant-loop-f : goal.invariant-loop-f
invariant-loop-f l =
    (goal.iterator-loop-f).can_next l.f-iterator × (goal.iterator-loop-f).is_finite l.f-iterator
    × (l.states ≡ min (states_to (λ v. get_or l.factors v 0) (λ v. get_or l.sizes v 0) l.leaf (length l.yielded)) 257)
