use Rattle.std.proofs.Common.{◌-◌, mul-le-mul, arith}
use Rattle.compare.proofs.travel.Goals as goal

pub overflow_mul-t : goal.overflow_mul-t
overflow_mul-t c = omega (arith, mul-le-mul c.loop-t.invariant c.loop-t.invariant)
