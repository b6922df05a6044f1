-- `tables::starts_of` meets its contract. The invariant: the first i entries are the numbers of the leaves' states. Assumes nothing.
use Rattle.std.proofs.Common.{suc}
use Rattle.task.specs.Factors.{number_to}
use Rattle.digits.specs.Digits.{entries, Filled}
use Rattle.tables.proofs.starts_of.Given as goal

abbrev pub invariant-loop-i : goal.invariant-loop-i
invariant-loop-i l = Filled l.i (λ k. number_to (entries l.factors) (entries l.sizes) (suc k) (entries l.values) l.variables) l.start-items
