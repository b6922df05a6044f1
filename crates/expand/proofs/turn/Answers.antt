-- `expand::turn` meets its contract: the tables say whether the action is a centre action, and its layer's begin is offered. Assumes nothing.
use Rattle.std.proofs.Common.{◌≡◌, refl, sym, ◌∙◌, true}
use Rattle.loops.specs.Count.Laws.{told}
use Rattle.layer.specs.Held.{board_in}
use Rattle.keys.specs.Scan.{key_by}
use Rattle.begins.specs.Begin.{risen_key, key_more, stuck_out}
use Rattle.expand.specs.Held.Turns.{moved_leaf, moved_above, moved_stuck, moved_offered}
use Rattle.expand.proofs.turn.Goals as goal

pub returns-then-board-a-ne0-clause-moved : goal.returns-then-board-a-ne0-clause-moved
returns-then-board-a-ne0-clause-moved c =
    moved_leaf _ _ _ _ _ _ _ _ _ _ _ _ _ _ c.requires.room.few_nodes c.requires.room.count_few c.requires.inside.1 c.requires.inside.0 c.if-board-a-ne0.true

pub returns-then-low-run-clause-moved : goal.returns-then-low-run-clause-moved
returns-then-low-run-clause-moved c =
    moved_above _ _ _ _ _ _ _ _ _ _ _ _ _ _ c.requires.room.few_nodes c.requires.room.count_few c.requires.inside.1 c.requires.inside.0 c.if-board-a-ne0.false
    c.add_price-low.result (rw c.cost_of-cost.ensures at c.add_price-low.ensures) c.if-low-run.true

pub returns-then-is_stuck-clause-moved : goal.returns-then-is_stuck-clause-moved
returns-then-is_stuck-clause-moved c =
    let t = c.args.tables.now in
    let n = c.args.opened.now.node in
    moved_stuck _ _ _ _ _ _ _ _ _ _ _ _ _ _ c.requires.room.few_nodes c.requires.room.count_few c.requires.inside.1 c.requires.inside.0 c.if-board-a-ne0.false
    (stuck_out (board_in t.offers.board) t.offers.board.sound n.spot n.prices.now t.still.now t.stills.now c.args.a (rw c.requires.states at n.long) (told c.is_stuck.ensures c.if-is_stuck.true))

pub offer-requires-clause-old : goal.offer-requires-clause-old
offer-requires-clause-old c =
    let n = c.args.opened.now.node in
    (rw c.requires.states at n.long, rw c.requires.states at n.reached)

pub returns-clause-moved : goal.returns-clause-moved
returns-clause-moved c =
    let t = c.args.tables.now in
    let o = c.args.opened.now in
    let b = c.begin_of-begun in
    let p = rw c.cost_of-cost.ensures at c.add_price-paid.ensures in
    let low : o.key ≡ key_by t.offers.board.leaves t.offers.board.bases.now o.node.paid o.node.prices.now
    → c.add_price-low.result ≡ key_by t.offers.board.leaves t.offers.board.bases.now c.add_price-paid.result o.node.prices.now =
    λ is_key. rw c.cost_of-cost.ensures at c.add_price-low.ensures
    ∙ rw (is_key, p) (key_more t.offers.board.leaves t.offers.board.bases.now o.node.paid _ o.node.prices.now) in
    moved_offered _ _ _ _ _ _ _ _ _ _ _ _ _ _ c.requires.room.few_nodes c.requires.room.count_few c.requires.inside.1 c.requires.inside.0 c.if-board-a-ne0.false
    true (sym c.requires.met) refl c.pairs_of.result _ _ c.after-spot.result c.add_price-paid.result c.pairs_of.ensures c.after-spot.ensures b.ensures.begun p
    b.result.key (λ is_key. risen_key t.offers.board.leaves t.offers.board.bases.now o.node.prices.now _ _ b.result.key c.add_price-paid.result b.ensures.risen (low is_key))
    c.offer.new.table c.offer.new.scan c.offer.result c.offer.ensures.offered
