-- `plans::leaf_step` meets its contract: it lends what the layer began with. Assumes nothing.
use Rattle.std.proofs.Common.{◌≡◌, ap, ◌∙◌, ◌++◌, ℕ, arith, length, take, drop, replicate, take_at, length-take-le}
use Rattle.leaf.specs.Price.{mark}
use Rattle.leaf.specs.Settle.Turns.{take_replicate}
use Rattle.layer.specs.Board.{states_on}
use Rattle.layer.specs.Held.{board_in}
use Rattle.plans.specs.Walk.{begins_on}
use Rattle.plans.specs.Walk.Laws.{begun_walkable, begun_walked}
use Rattle.plans.proofs.leaf_step.Goals as goal
use Rattle.plans.proofs.leaf_step.Goals.{After-layer_begin}

-- the part that is lent has room for each of the leaf's states, and what the layer began with stands there afterwards
many : (c : After-layer_begin) → c.len-many.result ≡ states_on (board_in c.args.board.now) c.args.i
many c = omega (arith, c.leaf.ensures.begins, c.leaf.ensures.stops, c.len-many.ensures.value)

begun : (c : After-layer_begin) →
    take c.len-many.result (c.layer_begin.new.out ++ drop c.len-many.result (replicate 256 mark))
    ≡ begins_on (board_in c.args.board.now) c.args.starts.now c.args.table.now c.args.i c.args.node
begun c =
    let few = c.args.board.now.sound.few_states c.args.i c.requires.standing.1 in
    let long : length c.layer_begin.new.out ≡ c.len-many.result = c.layer_begin.auto.out ∙ length-take-le _ (replicate 256 mark) (omega (arith, few, many c)) in
    take_at c.layer_begin.new.out _ _ long ∙ c.layer_begin.ensures

pub layer_begin-requires : goal.layer_begin-requires
layer_begin-requires c =
    let few = c.args.board.now.sound.few_states c.args.i c.requires.standing.1 in
    let many : c.len-many.result ≡ states_on (board_in c.args.board.now) c.args.i = omega (arith, c.leaf.ensures.begins, c.leaf.ensures.stops, c.len-many.ensures.value) in
    (c.requires.standing.0, c.requires.standing.1, take_replicate c.len-many.result 256 mark (omega (arith, few)) ∙ ap (λ (n : ℕ). replicate n mark) many)

pub leaf_walk-requires-clause-walkable : goal.leaf_walk-requires-clause-walkable
leaf_walk-requires-clause-walkable c =
    let a = c.args in
    begun_walkable (board_in a.board.now) a.starts.now a.table.now a.i a.node _ a.state (begun (goal.at.leaf_walk-requires-clause-walkable c).After-layer_begin)
    c.requires.walkable

pub returns-clause-walked : goal.returns-clause-walked
returns-clause-walked c =
    let a = c.args in
    let o = a.out.now in
    begun_walked (board_in a.board.now) a.starts.now a.table.now a.i a.node _ a.state (begun (goal.at.returns-clause-walked c).After-layer_begin)
    o.total o.place o.plan.now _ _ _ c.leaf_walk.ensures.walked
