use Rattle.std.proofs.Common.{◌∙◌, ◌+◌, arith}
use Rattle.leaf.specs.Settle.Sweeps.{reach_next}
use Rattle.settle.proofs.Visits.{swept_on}
use Rattle.settle.proofs.set_out_part.Goals as goal

pub loop-x-preserved : goal.loop-x-preserved
loop-x-preserved g c =
    let l = c.loop-x in
    let one = rw l.invariant.prices_kept at c.set_out-fell.ensures in
    record {
      up = omega arith;
      within = omega arith;
      prices_kept = c.set_out-fell.auto.prices ∙ l.invariant.prices_kept;
      dirty_kept = c.set_out-fell.auto.dirty ∙ l.invariant.dirty_kept;
      swept = swept_on _ _ _ _ _ _ _ _ _ _ _ _ _ _ l.fell _ l.invariant.swept (one _ _ (reach_next l.x (l.x + 1)));
    }
