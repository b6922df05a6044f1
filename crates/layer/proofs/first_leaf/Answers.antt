-- `layer::first_leaf` meets its contract. What settles is the filled list, as it was lent, with 0 at the start. Assumes nothing.
use Rattle.std.proofs.Common.{ap, ◌∙◌, length, length-set}
use lib.ListN.{length-replicate}
use Rattle.layer.proofs.first_leaf.Goals as goal

pub settle_leaf-requires : goal.settle_leaf-requires
settle_leaf-requires c = (c.requires.0, simp length-set (ap length c.requires.2 ∙ length-replicate _ _))

pub returns : goal.returns
returns c = c.settle_leaf.ensures ∙ rw c.requires.2
