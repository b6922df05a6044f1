-- `offers::list_begin` meets its contract: behind a still action no list is asked for. Assumes nothing.
use Rattle.std.proofs.Common.{arith}
use Rattle.offers.proofs.list_begin.Goals as goal

pub returns-then-still-ne0 : goal.returns-then-still-ne0
returns-then-still-ne0 c = (omega arith, λ e. absurd (c.if-still-ne0.true e))

pub returns : goal.returns
returns c = let r = c.list_reached.ensures.listed in (r.0, λ _. r.1)
