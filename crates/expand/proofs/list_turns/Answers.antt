-- `expand::list_turns` meets its contract: all actions whose conditions hold are listed, and detours are left out where a hop made the node. Assumes nothing.
use Rattle.std.proofs.Common.{◌≡◌, ◌∙◌, Bool, ℕ, ◌≤◌, ◌<◌, arith, length, get_or, take}
use Rattle.layer.specs.Board.{Board, row_on, met_on}
use Rattle.layer.specs.Held.{board_in}
use Rattle.rows.specs.Row.{node_in}
use Rattle.rows.specs.Sign.Laws.{class_lt}
use Rattle.detours.specs.Detours.{detours, hop_behind}
use Rattle.detours.specs.Detours.Laws.{action_word, hop_told, kept_few, kept_listed}
use Rattle.expand.specs.Held.Lists.{useful_all, useful_dropped}
use Rattle.expand.proofs.list_turns.Goals as goal
use Rattle.expand.proofs.list_turns.Goals.{Start}

-- the Board that is lent
abbrev board : Start → Board
board s = board_in s.args.tables.now.offers.board

-- what a hop's word tells of the node: it was made by that hop, and has its parent's prices
hop : (s : Start) (word : ℕ)
    → (let a = s.args in let o = a.opened.now in word ≡ hop_behind o.node.states a.tables.now.offers.board.actions a.table.now a.tables.now.hops.now o.number o.node.prices.now)
    → (word ≡ 0 → ⊥)
    → let a = s.args in let o = a.opened.now in let n = node_in (row_on (board s)) a.table.now o.number in
    (n.parent < o.number) × (n.action < a.tables.now.offers.board.actions) × (get_or a.tables.now.hops.now n.action 0 ≡ word)
    × ((node_in (row_on (board s)) a.table.now n.parent).prices ≡ take (row_on (board s)) o.node.prices.now)
hop s word e d =
    let a = s.args in
    let o = a.opened.now in
    hop_told (row_on (board s)) a.tables.now.offers.board.actions a.table.now a.tables.now.hops.now o.number o.node.prices.now word
    s.requires.mets_len.2 (rw s.requires.states at o.node.long) (rw s.requires.states at e) d

pub list_mets-many-requires-clause-class : goal.list_mets-many-requires-clause-class
list_mets-many-requires-clause-class c = omega (arith, c.class_of.ensures, class_lt c.args.opened.now.node.spot)

pub returns-then-word-eq0 : goal.returns-then-word-eq0
returns-then-word-eq0 c =
    let b = board (goal.at.returns-then-word-eq0 c).Start in
    let o = c.args.opened.now in
    let m = c.list_mets-many.ensures in
    (m.known, m.few, useful_all b c.args.tables.now.effects.now o.node.spot c.args.table.now o.number o.node.prices.now c.list_mets-many.result _ m.listed)

pub cost_of-cost-requires : goal.cost_of-cost-requires
cost_of-cost-requires c =
    let s = (goal.at.cost_of-cost-requires c).Start in
    let known = (hop s c.hop_behind-word.result c.hop_behind-word.ensures c.if-word-eq0.false).1 in
    let sound = c.args.tables.now.offers.board.sound in
    let below = rw (action_word (row_on (board s)) c.args.opened.now.number c.args.table.now) at known in
    let here = rw (← c.requires.states) at below in
    omega (arith, here, sound.few_actions, sound.few_leaves)

pub drop_detours-requires : goal.drop_detours-requires
drop_detours-requires c =
    let s = (goal.at.drop_detours-requires c).Start in
    let t = c.args.tables.now in
    let made = hop s c.hop_behind-word.result c.hop_behind-word.ensures c.if-word-eq0.false in
    let few : c.hop_behind-word.result ≤ 8192 = rw made.2 at (t.hopped.few (node_in (row_on (board s)) c.args.table.now c.args.opened.now.number).action) in
    let m = c.list_mets-many.ensures in
    (t.hopped.long, t.wayed.long, t.offers.board.sound.costs_long, m.lengths ∙ c.requires.mets_len.0, m.few, few, c.if-word-eq0.false, t.hopped.few)

pub returns : goal.returns
returns c =
    let s = (goal.at.returns c).Start in
    let b = board s in
    let t = c.args.tables.now in
    let o = c.args.opened.now in
    let T = c.args.table.now in
    let word = c.hop_behind-word.result in
    let made = hop s word c.hop_behind-word.ensures c.if-word-eq0.false in
    let m = c.list_mets-many in
    let d = rw (c.cost_of-cost.ensures, c.requires.states, ← action_word (row_on b) o.number T) at c.drop_detours.ensures in
    let D : ℕ → Bool = detours t.hops.now t.ways.now t.offers.board.costs.now word (get_or t.offers.board.costs.now (node_in (row_on b) T o.number).action 0) in
    let xs = m.new.list in
    let long : m.result ≤ length xs = omega (arith, m.ensures.few, m.ensures.lengths, c.requires.mets_len.0) in
    let kept = kept_listed D xs (met_on b o.node.spot) t.offers.board.actions m.result long m.ensures.listed in
    let listed = rw (← d.0, ← d.1) at kept in (
      m.ensures.known,
      omega (arith, d.0, kept_few D xs m.result, m.ensures.few),
      useful_dropped b t.effects.now o.node.spot T o.number o.node.prices.now t.hops.now t.ways.now t.hopped t.wayed
          word c.if-word-eq0.false made.0 made.1 made.2 made.3 c.drop_detours.result _ listed,
    )
