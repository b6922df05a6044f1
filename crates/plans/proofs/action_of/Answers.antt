-- `plans::action_of` meets its contract: the word stands in the node's row. Assumes nothing.
use Rattle.std.proofs.Common.{ap, List, ℕ, get_or}
use Rattle.rows.specs.Row.{node_of}
use Rattle.plans.proofs.action_of.Goals as goal

pub returns : goal.returns
unfolding node_of
returns c = ap (λ (row : List ℕ). get_or row 34 0) c.row_of.ensures.row
