-- `wayback::leaf_back` meets its contract. Without an action nothing is walked; else the tight edges of the actions are listed, and their way is the
-- one meant. Assumes nothing.
use Rattle.std.proofs.Common.{refl, ℕ, ◌≤◌, ◌<◌, arith, length, length-take, rules}
use lib.ListN.{length-replicate}
use Rattle.wayback.specs.Woven.{Backed}
use Rattle.wayback.specs.Woven.Laws.{index_legible, tight_woven}
use Rattle.wayback.specs.Ready.{back_none}
use Rattle.wayback.proofs.leaf_back.Goals as goal
use Rattle.wayback.proofs.leaf_back.Goals.{After-tight_edges}

-- there is a stop behind each state's edges
stops_long : (c : After-tight_edges) → length c.args.prices.now < length c.tight_edges.new.stops
stops_long c = omega (arith, c.tight_edges.auto.stops, length-replicate {A = ℕ} 257 0, c.requires.walkable.few_states)

-- the listed edges can be walked along
abbrev backed : (c : After-tight_edges) → let k = c.args.actions.now in
    Backed k.moves.now k.row k.at k.acts.now c.index_of-index.result c.tight_edges.new.tight c.tight_edges.new.stops
    c.args.begins.now c.args.prices.now c.args.state
backed c =
    let w = c.requires.walkable in
    let o = c.index_of-index.ensures in
    let e = c.ways_of-ways.ensures in
    let listed =
    rw (e.moves.0, e.moves.1, e.moves.2, e.moves.3, e.mets, e.edges.0, e.edges.1) at c.tight_edges.ensures.1 in
    record {
      woven = tight_woven _ _ _ _ _ _ _ c.index_of-index.result w.lent o.1 o.0 w.few_actions w.few_states c.args.edges.now.list.now c.args.edges.now.ends.now
          c.requires.covers c.tight_edges.new.tight c.tight_edges.new.stops (stops_long c)
          (omega (arith, c.tight_edges.ensures.0, c.tight_edges.auto.tight)) listed w.lent.acts_long;
      same = w.same;
      inside = w.inside;
      deep = w.deep;
    }

pub returns-then-is_empty-clause-walked : goal.returns-then-is_empty-clause-walked
returns-then-is_empty-clause-walked c = back_none _ _ _ _ _ _ _ _ _ c.requires.walkable (search rules) _ _ _

pub tight_edges-requires : goal.tight_edges-requires
tight_edges-requires c =
    let w = c.requires.walkable in
    let o = c.index_of-index.ensures in
    let e = c.ways_of-ways.ensures in
    rw (e.moves.0, e.moves.1, e.moves.2, e.moves.3, e.mets, e.edges.0, e.edges.1)
    (o.0, omega (arith, w.few_states), refl, index_legible _ _ _ _ _ _ _ _ w.lent o.1, c.requires.spread)

pub tight_back-requires : goal.tight_back-requires
tight_back-requires c =
    let w = c.requires.walkable in
    let e = c.ways_of-listed.ensures in
    let k = c.args.actions.now in
    let some : 0 < length k.acts.now = search rules in
    let begins : k.at ≤ length k.moves.now = omega (arith, w.lent.moves_long 0 0 some (omega (arith, w.inside))) in
    rw (e.moves.0, e.moves.1, e.moves.2, e.mets, e.edges.0, e.edges.1)
    (backed (goal.at.tight_back-requires c).After-tight_edges, simp length-take (omega (arith, w.few_states)), begins, c.requires.place)

pub returns-clause-walked : goal.returns-clause-walked
returns-clause-walked c =
    let e = c.ways_of-listed.ensures in
    let walked =
    rw (e.moves.0, e.moves.1, e.moves.2, e.mets, e.edges.0, e.edges.1) at c.tight_back.ensures.walked in
    walked (backed (goal.at.returns-clause-walked c).After-tight_edges)
