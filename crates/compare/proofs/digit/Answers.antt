-- `compare::digit` is safe. The digit is below the size, which is a byte. Assumes nothing.
use Rattle.std.proofs.Common.{mod-lt, arith}
use Rattle.compare.proofs.digit.Goals as goal

pub overflow_cast-result-2 : goal.overflow_cast-result-2
overflow_cast-result-2 c = omega (arith, mod-lt c.args.number {m = c.args.size} (omega arith))
