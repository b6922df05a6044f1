-- `wayback::put` meets its contract. Each return computes, with the test that led there. Assumes nothing.
use Rattle.std.proofs.Common.{lt-ltb, le-ltb}
use Rattle.search.specs.Plan.Laid.{put}
use Rattle.wayback.proofs.put.Goals as goal

pub returns-then-place-total : goal.returns-then-place-total
unfolding put
returns-then-place-total c = rw (lt-ltb _ _ c.if-place-total.true)

pub returns-else-place-total : goal.returns-else-place-total
unfolding put
returns-else-place-total c = rw (le-ltb _ _ c.if-place-total.false)
