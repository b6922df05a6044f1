use Rattle.std.proofs.Common.{◌∙◌, arith}
use Rattle.settle.proofs.Visits.{swept_on}
use Rattle.settle.proofs.sweep.Goals as goal

pub loop-x-preserved : goal.loop-x-preserved
loop-x-preserved g c =
    let l = c.loop-x in
    let one = rw l.invariant.prices_kept at c.visit-fell.ensures in
    record {
      within = omega arith;
      prices_kept = c.visit-fell.auto.prices ∙ l.invariant.prices_kept;
      dirty_kept = c.visit-fell.auto.dirty ∙ l.invariant.dirty_kept;
      swept = swept_on _ _ _ _ _ _ _ _ _ _ _ _ _ _ l.fell _ l.invariant.swept one;
    }
