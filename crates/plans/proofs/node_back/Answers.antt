-- `plans::node_back` meets its contract: the layer, the action before it, and over the action. Assumes nothing.
use Rattle.std.proofs.Common.{arith, get_or}
use Rattle.layer.specs.Held.{board_in}
use Rattle.plans.specs.Walk.Turns.{node_done}
use Rattle.plans.specs.Walk.{over_on}
use Rattle.plans.specs.Steps.{layer_few}
use Rattle.plans.proofs.node_back.Goals as goal

pub put-requires : goal.put-requires
put-requires c =
    let a = c.args in
    let sound = a.board.now.sound in
    let few = layer_few (board_in a.board.now) sound a.starts.now a.table.now a.node (λ i. get_or a.ends.now i 0) c.requires.walkable in
    omega (arith, c.layer_back.ensures.walked.place, few, sound.few_all, c.requires.room.1)

pub returns-clause-walked : goal.returns-clause-walked
returns-clause-walked c =
    let a = c.args in
    let o = a.out.now in
    let action = rw c.states.ensures.is at c.action_of.ensures in
    let put = rw c.layer_back.ensures.kept.total at c.put.ensures.plan in
    rw c.put.ensures.place
    (node_done a.board.now.leaves _ (λ i z. over_on (board_in a.board.now) a.table.now i a.node z) o.total o.place o.plan.now _ _ _ _ _ _ _
    c.layer_back.ensures.walked put action c.go_over.ensures)
