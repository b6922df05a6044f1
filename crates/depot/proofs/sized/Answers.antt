-- `depot::sized` meets its contract: neither S nor the nodes are many, so that the product fits. Assumes nothing.
use Rattle.std.proofs.Common.{◌≡◌, mul-le-mul, arith, ◌+◌, ◌*◌, ◌≤◌, rules}
use Rattle.depot.specs.Depot.{for_record, size_for}
use Rattle.depot.specs.Depot.Laws.{size_none, size_some}
use Rattle.depot.proofs.sized.Goals as goal
use Rattle.depot.proofs.sized.Goals.{Else-states-eq0}

-- the size by S, and that neither S nor the nodes are many
by_states : (c : Else-states-eq0) → let s = c.args in
    (size_for s.rows s.width s.nodes c.states_for-states.result ≡ for_record (size_for s.rows s.width s.nodes) s.«record».now s.nodes)
    × ((c.states_for-states.result ≤ 1024) × (s.nodes ≤ 4096))
by_states c =
    let s = c.args in
    size_some (size_for s.rows s.width s.nodes) s.«record».now s.nodes c.states_for-states.result c.states_for-states.ensures c.if-states-eq0.false

pub returns-then-states-eq0 : goal.returns-then-states-eq0
returns-then-states-eq0 c =
    let s = c.args in
    size_none (size_for s.rows s.width s.nodes) s.«record».now s.nodes c.states_for-states.result c.states_for-states.ensures c.if-states-eq0.true

pub overflow_add-result : goal.overflow_add-result
overflow_add-result c = let (_, (few, nodes)) = by_states (goal.at.overflow_add-result c).Else-states-eq0 in omega (arith, nodes, c.requires.0)

pub overflow_add-result-2 : goal.overflow_add-result-2
overflow_add-result-2 c = let (_, (few, nodes)) = by_states (goal.at.overflow_add-result-2 c).Else-states-eq0 in omega (arith, few, c.requires.1)

pub overflow_mul-result : goal.overflow_mul-result
overflow_mul-result c =
    let (_, (few, nodes)) = by_states (goal.at.overflow_mul-result c).Else-states-eq0 in
    let most : (c.args.nodes + c.args.rows) * (c.args.width + c.states_for-states.result) ≤ 4097 * 1064 =
    mul-le-mul {n₂ = 4097} {m₂ = 1064} (omega (arith, nodes, c.requires.0)) (omega (arith, few, c.requires.1)) in
    omega (arith, most)

pub returns : goal.returns
returns c = (by_states (goal.at.returns c).Else-states-eq0).0
