-- `nodes::join` meets its contract: three words are stored. Assumes nothing.
use Rattle.nodes.specs.Chain.{joined_to}
use Rattle.nodes.proofs.join.Goals as goal

pub returns : goal.returns
unfolding joined_to
returns c = rw c.with_entry-nodes.ensures
