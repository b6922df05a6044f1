-- `offers::keep_signed` meets its contract: the row, the links, and the new best by its goal cost. Assumes nothing.
use Rattle.std.proofs.Common.{ℕ, arith, take}
use Rattle.layer.specs.Board.{row_on}
use Rattle.layer.specs.Held.{board_in}
use Rattle.search.specs.Node.{Node}
use Rattle.rows.specs.Row.{node_with}
use Rattle.keys.specs.Scan.{goal_cost_by}
use Rattle.rows.specs.Sign.Laws.{class_lt}
use Rattle.offers.specs.Held.Laws.{kept_by}
use Rattle.offers.proofs.keep_signed.Goals as goal
use Rattle.offers.proofs.keep_signed.Goals.{Start}

-- S, the node and its goal cost
abbrev S : Start → ℕ
S s = row_on (board_in s.args.tables.now.board)

abbrev node : Start → Node
node s = let a = s.args in node_with a.made.spot a.made.paid (take (S s) a.prices.now) a.made.parent a.made.action

abbrev cost : Start → ℕ
cost s = let a = s.args in let t = a.tables.now in goal_cost_by t.board.leaves t.board.bases.now t.goals.now t.board.factors t.goal a.made.spot a.made.paid a.prices.now

pub link-requires : goal.link-requires
link-requires c = (c.requires.room.0, omega (arith, c.requires.class, class_lt c.args.made.spot))

pub returns : goal.returns
returns c =
    let s = (goal.at.returns c).Start in
    let a = c.args in
    let is = c.states-states.ensures.is in
    let w = rw is at c.write_row.ensures in
    let long = rw is at c.write_row.auto.row in
    rw is
    (kept_by (S s) a.table.now a.scan.now a.run (node s) a.made.key (cost s) c.write_row.new.row _
    (omega (arith, c.requires.room.1)) (omega (arith, long)) w.0 w.1 c.requires.room.0 c.link.new.scan a.made.sign a.class
    w.2 c.requires.sign c.requires.class c.link.ensures (rw c.goal_cost-cost.ensures at c.counted.ensures))
