-- `depot::depot_table_words` meets its contract: the size, and what it promises of the planner's numbers. Assumes nothing.
use Rattle.std.proofs.Common.{rules}
use Rattle.depot.specs.Depot.Laws.{just_enough}
use Rattle.depot.proofs.depot_table_words.Goals as goal

pub returns : goal.returns
returns c =
    let s = c.args in
    let e = c.sized.ensures in
    record { words = e; just_enough = λ budget plan. rw e (just_enough s.«record».now s.nodes budget plan) }
