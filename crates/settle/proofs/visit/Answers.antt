use Rattle.std.proofs.Common.{inl}
use Rattle.settle.proofs.visit.Goals as goal

pub returns : goal.returns
returns g c = c.set_out.ensures _ _ (λ u h. inl h)
