-- `blocks::retire` meets its contract: the node's open key, its block's word and the upper word are stored. Assumes nothing.
use Rattle.std.proofs.Common.{◌∙◌}
use Rattle.blocks.specs.Block.{retired_to}
use Rattle.blocks.proofs.retire.Goals as goal

pub returns : goal.returns
unfolding retired_to
returns c = c.raise-2.ensures ∙ rw c.raise.ensures
