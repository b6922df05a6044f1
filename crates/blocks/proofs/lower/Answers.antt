-- `blocks::lower` meets its contract. Assumes nothing.
use Rattle.blocks.specs.Block.{lowered_to}
use Rattle.blocks.proofs.lower.Goals as goal

pub returns : goal.returns
unfolding lowered_to
returns c = cc
