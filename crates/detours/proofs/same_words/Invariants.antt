-- `detours::same_words` meets its contract. The invariant: no bit was apart so far just where the words so far are the same. Assumes nothing.
use Rattle.std.proofs.Common.{◌≡◌, eqb, get_or}
use Rattle.loops.specs.Count.{all}
use Rattle.detours.proofs.same_words.Given as goal

abbrev pub invariant-loop-j : goal.invariant-loop-j
invariant-loop-j l = eqb l.apart 0 ≡ all l.j (λ k. eqb (get_or l.xs k 0) (get_or l.ys k 0))
