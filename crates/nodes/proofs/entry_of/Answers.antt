-- `nodes::entry_of` meets its contract. Assumes nothing.
use Rattle.std.proofs.Common.{refl}
use Rattle.nodes.specs.Chain.{entry_of}
use Rattle.nodes.proofs.entry_of.Goals as goal

pub returns : goal.returns
unfolding entry_of
returns c = refl
