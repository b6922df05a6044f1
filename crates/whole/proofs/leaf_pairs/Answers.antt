-- `whole::leaf_pairs` meets its contract: effects that leave the leaf decide, or else the conditions. Assumes nothing.
use Rattle.loops.specs.Count.Laws.{told}
use Rattle.task.specs.Factors.{leaf_pairs}
use Rattle.whole.proofs.leaf_pairs.Goals as goal

pub returns-then-names_within : goal.returns-then-names_within
unfolding leaf_pairs
returns-then-names_within c = rw (told c.names_within.ensures c.if-names_within.true) c.names_within-then-names_within.ensures

pub returns-else-names_within : goal.returns-else-names_within
unfolding leaf_pairs
returns-else-names_within c = rw (told c.names_within.ensures c.if-names_within.false) c.if-names_within.false
