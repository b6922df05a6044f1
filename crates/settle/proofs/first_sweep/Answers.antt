use Rattle.std.proofs.Common.{◌∙◌, arith}
use Rattle.settle.proofs.Visits.{swept_on}
use Rattle.settle.proofs.first_sweep.Goals as goal

pub loop-prices-preserved : goal.loop-prices-preserved
loop-prices-preserved g c =
    let l = c.loop-prices in
    let four = rw l.invariant.prices_kept at c.set_out_four-fell.ensures in
    record {
      within = omega arith;
      prices_kept = c.set_out_four-fell.auto.prices ∙ l.invariant.prices_kept;
      dirty_kept = c.set_out_four-fell.auto.dirty ∙ l.invariant.dirty_kept;
      swept = swept_on _ _ _ _ _ _ _ _ _ _ _ _ _ _ l.fell _ l.invariant.swept four;
    }

pub returns : goal.returns
returns g c =
    let l = c.loop-prices in
    let rest = rw l.invariant.prices_kept at c.set_out_part.ensures in
    swept_on _ _ _ _ _ _ _ _ _ _ _ _ _ _ l.fell _ l.invariant.swept rest
