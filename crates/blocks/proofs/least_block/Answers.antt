-- `blocks::least_block` meets its contract. Assumes nothing.
use Rattle.std.proofs.Common.{refl}
use Rattle.blocks.specs.Block.Laws.{least_quarters}
use Rattle.blocks.proofs.least_block.Goals as goal

pub returns : goal.returns
returns c =
    rw (c.min.ensures, c.min-high.ensures, c.min-low.ensures)
    (least_quarters c.args.words.now 0 4 8 12 4 _ _ _ _ refl refl refl c.least_four.ensures c.least_four-2.ensures c.least_four-3.ensures c.least_four-4.ensures)
