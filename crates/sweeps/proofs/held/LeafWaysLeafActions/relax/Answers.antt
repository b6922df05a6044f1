use Rattle.std.proofs.Common.{refl, ◌∙◌, ◌+◌, le_antisymm, arith}
use Rattle.leaf.specs.Price.{mark}
use Rattle.leaf.specs.Lent.{cost_by}
use Rattle.settle.specs.Relaxing.{relaxing_none, relaxing_more}
use Rattle.edges.specs.Edges.{edges_at}
use Rattle.sweeps.specs.Sweeps.{move_met}
use Rattle.sweeps.specs.Sweeps.Same.{relax_same}
use Rattle.sweeps.proofs.held.LeafWaysLeafActions.relax.Goals as goal

pub loop-a-init : goal.loop-a-init
loop-a-init c = record { within = omega arith; relaxing = relaxing_none _ _ _ _ _ (λ i. omega (arith, c.type_inv.prices i)) }

pub loop-a-preserved : goal.loop-a-preserved
loop-a-preserved c =
    let l = c.loop-a in
    let w = c.args.self.now in
    let acts = edges_at w.edges.list.now w.edges.ends.now (w.at + c.args.x) in
    let here = rw c.of-a-items.ensures at c.loop-a-test.true in
    let one = rw c.of-a-items.ensures at c.follow-fell.ensures in
    record {
      within = omega arith;
      relaxing =
          relaxing_more (cost_by w.costs.now acts) (move_met w.moves.now w.row w.at w.mets.now acts) c.args.x _ _ l.a-index _ l.fell _ l.prices l.dirty _ _
          c.requires.inside l.invariant.relaxing refl one.lowers one.told c.follow-fell.auto.prices c.follow-fell.auto.dirty (λ i. omega (arith, c.type_inv.prices i));
    }

-- the edges of the state lead where the actions do that are meant
pub returns-clause-lowers : goal.returns-clause-lowers
returns-clause-lowers c = λ m cost to meant.
    let l = c.loop-a in
    let x = c.args.x in
    let past = rw c.of-a-items.ensures at c.loop-a-test.false in
    rw (le_antisymm l.invariant.within past) at l.invariant.relaxing.lowers
    ∙ relax_same mark x _ c.args.prices.now m cost to _ _ _ (meant.out x c.requires.inside) (meant.back x c.requires.inside)
