-- The enabled actions lead where the leaf's edges do; where no edge has its flag set they lead nowhere. Assumes nothing.
use Rattle.std.proofs.Common.{refl, sym, ◌∙◌, List, ℕ, arith, length, rules}
use Rattle.loops.specs.Count.Laws.{told}
use Rattle.leaf.specs.Price.{mark}
use Rattle.leaf.specs.Settle.Turns.{at_most}
use Rattle.leaf.specs.Lent.{cost_by, move_by}
use Rattle.layer.specs.Board.{row_on, base_on, enabled_on}
use Rattle.layer.specs.Board.Turns.{leaf_settled}
use Rattle.layer.specs.Held.{board_in}
use Rattle.sweeps.specs.Sweeps.{Meant}
use Rattle.sweeps.specs.Sweeps.Leaf.{leaf_ways, leaf_meant}
use Rattle.sweeps.specs.Sweeps.Still.{some_none, leaf_part_lem, leaf_unmet, still_settled}
use Rattle.sweeps.proofs.settle_leaf.Goals as goal
use Rattle.sweeps.proofs.settle_leaf.Goals.{Start}

-- the leaf's enabled actions
abbrev acts : Start → List ℕ
acts c = let a = c.args in enabled_on (board_in a.board.now) a.i a.centre a.board.now.actions

-- they lead where its edges do
meant : (c : Start) → let a = c.args in let b = board_in a.board.now in
    Meant b.moves (row_on b) (base_on b a.i) b.costs a.mets.now a.edges.now.list.now a.edges.now.ends.now (length a.prices.now)
    (length (acts c)) (cost_by b.costs (acts c)) (move_by b.moves (row_on b) (base_on b a.i) (acts c))
meant c =
    let a = c.args in
    let r = c.requires in
    rw r.leaf.1 (leaf_meant (board_in a.board.now) a.board.now.sound a.edges.now.list.now a.edges.now.ends.now r.table a.i r.leaf.0 a.centre a.mets.now r.flags)

pub slice_bounds-some_met-count : goal.slice_bounds-some_met-count
slice_bounds-some_met-count c =
    let a = c.args in
    let states = c.leaf-states.ensures in
    rw (states.begins, states.stops) (leaf_part_lem (board_in a.board.now) a.board.now.sound a.edges.now.list.now a.edges.now.ends.now c.requires.table a.i c.requires.leaf.0).1

pub slice_bounds-some_met-start : goal.slice_bounds-some_met-start
slice_bounds-some_met-start c =
    let a = c.args in
    let states = c.leaf-states.ensures in
    rw (states.begins, states.stops) (leaf_part_lem (board_in a.board.now) a.board.now.sound a.edges.now.list.now a.edges.now.ends.now c.requires.table a.i c.requires.leaf.0).1

pub returns-then-not-some_met : goal.returns-then-not-some_met
returns-then-not-some_met c =
    let s = (goal.at.returns-then-not-some_met c).Start in
    let a = c.args in
    let b = board_in a.board.now in
    let P = a.prices.now in
    let states = c.leaf-states.ensures in
    let looked = rw (states.begins, states.stops) at c.some_met.ensures in
    let none = told looked c.if-not-some_met.true in
    let unmet = leaf_unmet b a.board.now.sound a.edges.now.list.now a.edges.now.ends.now c.requires.table a.i c.requires.leaf.0 a.mets.now (some_none _ _ none) in
    let still = still_settled mark _ _ _ _ _ _ _ _ _ _ _ P (meant s) (rw c.requires.leaf.1 unmet) refl (at_most mark P (λ i. search rules)) in
    record { settled = still ∙ leaf_settled b a.i a.centre (acts s) _ refl refl P; same = λ _. refl; told = sym none }

pub settle_along-requires : goal.settle_along-requires
settle_along-requires c =
    let s = (goal.at.settle_along-requires c).Start in
    let a = c.args in
    let b = board_in a.board.now in
    let r = c.requires in
    let ways = leaf_ways b a.board.now.sound a.edges.now.list.now a.edges.now.ends.now r.table a.i r.leaf.0 a.mets.now r.flags.long in
    rw (c.states.ensures.is, c.leaf-states.ensures.begins)
    (omega (arith, r.leaf.1, a.board.now.sound.few_states a.i r.leaf.0), rw r.leaf.1 ways, record { count = _; cost = _; to = _; meant = meant s })

pub returns-clause-settled : goal.returns-clause-settled
returns-clause-settled c =
    let s = (goal.at.returns-clause-settled c).Start in
    let a = c.args in
    let along = rw (c.states.ensures.is, c.leaf-states.ensures.begins) at c.settle_along.ensures in
    along _ _ _ (meant s) ∙ leaf_settled (board_in a.board.now) a.i a.centre (acts s) _ refl refl a.prices.now

pub returns-clause-told : goal.returns-clause-told
returns-clause-told c =
    let states = c.leaf-states.ensures in
    let looked = rw (states.begins, states.stops) at c.some_met.ensures in
    sym (told looked c.if-not-some_met.false)
