-- `blocks::set_key` meets its contract: the key is stored, and the two words above it are lowered. Assumes nothing.
use Rattle.std.proofs.Common.{◌∙◌}
use Rattle.blocks.specs.Block.{blocked_to}
use Rattle.blocks.proofs.set_key.Goals as goal

pub returns : goal.returns
unfolding blocked_to
returns c = c.lower-2.ensures ∙ rw c.lower.ensures
