-- `blocks::fresh` meets its contract. Assumes nothing.
use Rattle.blocks.specs.Block.Laws.{fresh_put}
use Rattle.blocks.proofs.fresh.Goals as goal

pub returns : goal.returns
returns c = fresh_put c.args.scan.now _ c.told-scan c.fill.ensures
