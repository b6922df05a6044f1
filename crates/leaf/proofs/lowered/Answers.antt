-- `leaf::lowered` meets its contract. Each return is a case of the definition: no state, a price that is not lower, a price that is. Assumes nothing.
use Rattle.std.proofs.Common.{sym, arith, leb-false}
use Rattle.leaf.specs.Price.{mark}
use Rattle.leaf.specs.Settle.Turns.{lower_none, lower_here, lower_kept}
use Rattle.leaf.specs.Settle.Sweeps.{fell_none, fell_one}
use Rattle.leaf.proofs.lowered.Goals as goal

pub returns-then-k-eq0 : goal.returns-then-k-eq0
returns-then-k-eq0 c = (sym (lower_none _ _ _ _ c.if-k-eq0.true), fell_none mark _ _ _)

pub returns-then-v-prices : goal.returns-then-v-prices
returns-then-v-prices c =
    let a = c.args in
    (sym (lower_kept _ _ a.k a.v (omega arith) (omega arith) c.if-v-prices.true), fell_none mark _ _ _)

pub returns : goal.returns
returns c =
    let a = c.args in (
      sym (lower_here _ _ a.k a.v (omega arith) (omega arith) c.if-v-prices.false),
      fell_one mark a.x _ _ _ a.v _ (omega arith) (omega arith) c.if-v-prices.false (leb-false _ _),
    )
