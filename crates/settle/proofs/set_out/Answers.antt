use Rattle.std.proofs.Common.{refl, arith, rules}
use Rattle.settle.proofs.Visits.{set_out_far, set_out_near}
use Rattle.settle.proofs.set_out.Goals as goal

pub returns : goal.returns
returns g c = λ j k reach m cost to meant.
    set_out_near _ m cost to j k _ _ _ c.requires.inside reach _ _ _ (g.met.A.LeafActions.stays _ _ _ _ _ meant) refl c.requires.room (omega arith)
    (c.relax.ensures.lowers m cost to meant) c.relax.ensures.told

pub returns-then-prices-x-ge-MARK : goal.returns-then-prices-x-ge-MARK
returns-then-prices-x-ge-MARK g c = search (rules, set_out_far)
