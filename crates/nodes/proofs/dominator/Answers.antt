-- `nodes::dominator` meets its contract: a class is one of 1,024. Assumes nothing.
use Rattle.rows.specs.Sign.Laws.{class_lt}
use Rattle.nodes.proofs.dominator.Goals as goal

pub walk-requires-clause-classed : goal.walk-requires-clause-classed
walk-requires-clause-classed c = (c.requires.classed, rw c.requires.classed (class_lt c.args.candidate.now.spot))
