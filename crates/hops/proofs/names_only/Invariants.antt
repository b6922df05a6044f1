-- `hops::names_only` meets its contract. The invariant: the answer so far is that of the variables so far. Assumes nothing.
use Rattle.std.proofs.Common.{◌≡◌, ◌||◌, ◌+◌, eqb, get_or}
use Rattle.loops.specs.Count.{all}
use Rattle.hops.proofs.names_only.Given as goal

abbrev pub invariant-loop-w : goal.invariant-loop-w
invariant-loop-w l = l.alone ≡ all l.w (λ k. eqb k l.v || eqb (get_or l.pairs (l.at + k) 0) 16)
