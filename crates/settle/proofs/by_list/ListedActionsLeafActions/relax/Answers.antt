use Rattle.std.proofs.Common.{arith}
use Rattle.settle.specs.Relaxing.{relaxing_none, relaxing_more}
use Rattle.settle.proofs.by_list.ListedActionsLeafActions.relax.Goals as goal

pub loop-a-init : goal.loop-a-init
loop-a-init c = record { within = omega arith; relaxing = relaxing_none _ _ _ _ _ (λ i. omega (arith, c.type_inv.prices i)) }

pub move_of-k-requires : goal.move_of-k-requires
move_of-k-requires c = c.requires.can.moves_long c.loop-a.a-index c.args.x c.loop-a-test.true c.requires.inside

pub loop-a-preserved : goal.loop-a-preserved
loop-a-preserved c =
    let l = c.loop-a in
    let one = rw c.add_price-v.ensures at c.lowered-fell.ensures in
    record {
      within = omega arith;
      relaxing =
          relaxing_more _ _ _ _ _ l.a-index _ l.fell _ l.prices l.dirty _ _ c.requires.inside l.invariant.relaxing c.move_of-k.ensures one.0 one.1
          c.lowered-fell.auto.prices c.lowered-fell.auto.dirty (λ i. omega (arith, c.type_inv.prices i));
    }
