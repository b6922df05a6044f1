use Rattle.std.proofs.Common.{refl, ◌∙◌, length, rules}
use Rattle.leaf.specs.Price.{mark}
use Rattle.leaf.specs.Settle.Turns.{at_most}
use Rattle.leaf.specs.Settle.Walks.{Capped}
use Rattle.leaf.specs.Settle.Sweeps.{sweeping_start, sweeping_end}
use Rattle.settle.proofs.settle_by.Goals as goal

pub returns-then-not-first_sweep : goal.returns-then-not-first_sweep
returns-then-not-first_sweep g c =
    let P = c.args.prices.now in
    let cap : Capped mark P = at_most mark P (λ i. search rules) in
    λ m cost to meant. sweeping_end mark _ _ _ _ (g.met.A.LeafActions.stays _ _ _ _ _ meant) 0 P P _ _ _ refl cap
    (sweeping_start mark _ _ _ _ P _ refl cap) (c.first_sweep.ensures m cost to meant) c.if-not-first_sweep.true

pub loop-dirty-preserved : goal.loop-dirty-preserved
loop-dirty-preserved g c =
    let l = c.loop-dirty in
    let one = rw l.invariant.prices_kept at c.sweep.ensures in
    record {
      prices_kept = c.sweep.auto.prices ∙ l.invariant.prices_kept;
      dirty_kept = c.sweep.auto.dirty ∙ l.invariant.dirty_kept;
      keeps = λ m cost to meant P s. (one m cost to meant).keeps P (l.invariant.keeps m cost to meant P s);
    }

pub returns : goal.returns
returns g c =
    let P = c.args.prices.now in
    let l = c.loop-dirty in
    let cap : Capped mark P = at_most mark P (λ i. search rules) in
    let long = c.first_sweep.auto.prices in
    let keeps = rw long at l.invariant.keeps in
    let last = rw (l.invariant.prices_kept ∙ long) at c.sweep.ensures in
    λ m cost to meant. sweeping_end mark _ _ _ _ (g.met.A.LeafActions.stays _ _ _ _ _ meant) (length P) P _ _ _ _ refl cap
    (keeps m cost to meant P ((c.first_sweep.ensures m cost to meant).keeps P (sweeping_start mark _ _ _ _ P _ refl cap)))
    (last m cost to meant) c.loop-dirty-test.false
