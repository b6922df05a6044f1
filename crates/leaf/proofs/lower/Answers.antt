-- `leaf::lower` meets its contract. Each return is a case of the definition: no state, a price that is lower, a price that is not. Assumes nothing.
use Rattle.std.proofs.Common.{sym, arith}
use Rattle.leaf.specs.Settle.Turns.{lower_none, lower_here, lower_kept}
use Rattle.leaf.proofs.lower.Goals as goal

pub returns-then-k-eq0 : goal.returns-then-k-eq0
returns-then-k-eq0 c = sym (lower_none _ _ _ _ c.if-k-eq0.true)

pub returns-then-v-prices : goal.returns-then-v-prices
returns-then-v-prices c = let a = c.args in sym (lower_here _ _ a.k a.v (omega arith) (omega arith) c.if-v-prices.true)

pub returns-else-v-prices : goal.returns-else-v-prices
returns-else-v-prices c = let a = c.args in sym (lower_kept _ _ a.k a.v (omega arith) (omega arith) c.if-v-prices.false)
