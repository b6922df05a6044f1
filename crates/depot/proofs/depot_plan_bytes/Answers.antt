-- `depot::depot_plan_bytes` meets its contract: the size, and what it promises of the planner's numbers. Assumes nothing.
use Rattle.std.proofs.Common.{rules}
use Rattle.depot.specs.Depot.Laws.{enough}
use Rattle.depot.proofs.depot_plan_bytes.Goals as goal

pub returns : goal.returns
returns c =
    let s = c.args in
    let e = c.sized.ensures in
    record { bytes = e; enough = λ budget table. rw e (enough s.«record».now s.nodes budget table) }
