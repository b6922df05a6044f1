-- `nodes::add_group` meets its contract: three words are stored. Assumes nothing.
use Rattle.std.proofs.Common.{refl}
use Rattle.nodes.specs.Chain.{with_group}
use Rattle.nodes.proofs.add_group.Goals as goal

pub returns : goal.returns
unfolding with_group
returns c = refl
