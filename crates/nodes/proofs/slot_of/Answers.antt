-- `nodes::slot_of` meets its contract. Assumes nothing.
use Rattle.std.proofs.Common.{refl}
use Rattle.nodes.specs.Chain.{slot_of}
use Rattle.nodes.proofs.slot_of.Goals as goal

pub returns : goal.returns
unfolding slot_of
returns c = refl
