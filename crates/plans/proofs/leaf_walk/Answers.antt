-- `plans::leaf_walk` meets its contract: it lends the leaf's enabled actions, and its prices in the node's row. Assumes nothing.
use Rattle.std.proofs.Common.{◌≡◌, refl, sym, ap, ◌∙◌, take}
use Rattle.task.specs.declared.Centre.{Centre}
use Rattle.layer.specs.Board.{enabled_on}
use Rattle.layer.specs.Board.Turns.{front_these}
use Rattle.layer.specs.Held.{board_in}
use Rattle.wayback.specs.Woven.Leaf.{leaf_spread, leaf_covers}
use Rattle.plans.specs.Walk.{acts_on}
use Rattle.plans.specs.Walk.Laws.{spot_at, kept_here, walkable_here, walked_here}
use Rattle.plans.proofs.leaf_walk.Goals as goal
use Rattle.plans.proofs.leaf_walk.Goals.{After-enabled-count}

-- the actions that are listed are those that the node enables
front : (c : After-enabled-count) → take c.enabled-count.result c.enabled-count.new.acts ≡ acts_on (board_in c.args.board.now) c.args.table.now c.args.i c.args.node
front c =
    let b = board_in c.args.board.now in
    let row = rw c.states-states.ensures.is at c.row_of.ensures.row in
    front_these c.enabled-count.ensures
    ∙ ap (λ (x : Centre). enabled_on b c.args.i x b.actions) (c.read_spot-spot.ensures ∙ spot_at _ c.args.table.now c.args.node row)

pub returns-then-first_depth-eq0-clause-walked : goal.returns-then-first_depth-eq0-clause-walked
returns-then-first_depth-eq0-clause-walked c =
    let a = c.args in
    let o = a.out.now in
    kept_here (board_in a.board.now) a.table.now a.i a.node a.begins.now _ a.state c.prices_of-prices.ensures.prices c.requires.walkable
    o.total o.place o.plan.now (sym c.first_depth.ensures ∙ c.if-first_depth-eq0.true)

pub leaf_back-requires-clause-walkable : goal.leaf_back-requires-clause-walkable
leaf_back-requires-clause-walkable c =
    let a = c.args in
    rw (c.states-states.ensures.is, c.leaf.ensures.begins)
    (walkable_here (board_in a.board.now) a.table.now a.i a.node a.begins.now _ _ a.state
    (front (goal.at.leaf_back-requires-clause-walkable c).After-enabled-count) c.prices_of-prices.ensures.prices c.requires.walkable)

pub leaf_back-requires-clause-covers : goal.leaf_back-requires-clause-covers
leaf_back-requires-clause-covers c =
    let a = c.args in
    rw (c.states-states.ensures.is, c.leaf.ensures.begins)
    (leaf_covers (board_in a.board.now) a.board.now.sound a.edges.now.list.now a.edges.now.ends.now c.requires.edges a.i c.requires.leaf.0 _ _ _ _
    (front (goal.at.leaf_back-requires-clause-covers c).After-enabled-count) refl c.prices_of-prices.ensures.long)

pub leaf_back-requires-clause-spread : goal.leaf_back-requires-clause-spread
leaf_back-requires-clause-spread c =
    let a = c.args in
    rw (c.leaf.ensures.begins, c.prices_of-prices.ensures.long)
    (leaf_spread (board_in a.board.now) a.board.now.sound a.edges.now.list.now a.edges.now.ends.now c.requires.edges a.i c.requires.leaf.0 _ c.requires.room.0)

pub returns-clause-walked : goal.returns-clause-walked
returns-clause-walked c =
    let a = c.args in
    let o = a.out.now in
    let walked = rw (c.states-states.ensures.is, c.leaf.ensures.begins) at c.leaf_back.ensures.walked in
    walked_here (board_in a.board.now) a.table.now a.i a.node a.begins.now _ _ a.state
    (front (goal.at.returns-clause-walked c).After-enabled-count) c.prices_of-prices.ensures.prices
    o.total o.place o.plan.now _ _ _ walked
