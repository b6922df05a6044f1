-- `offers::offer` meets its contract: one law for each of its four ends. Assumes nothing.
use Rattle.std.proofs.Common.{◌≡◌, sym, ◌∙◌, Bool, true, false, nat_le, List, ℕ, ◌+◌, ◌≤◌, ◌<◌, arith}
use borrow.Author.Tests.{leb-true, leb-false}
use Rattle.layer.specs.Board.{Board, row_on}
use Rattle.layer.specs.Held.{board_in}
use Rattle.rows.specs.Begun.{begun_words}
use Rattle.rows.specs.Sign.Laws.{class_lt}
use Rattle.offers.specs.Held.Laws.{rows_fit}
use Rattle.offers.specs.Held.Offers.{offered_above, offered_dominated, offered_full, offered_kept}
use Rattle.offers.proofs.offer.Goals as goal
use Rattle.offers.proofs.offer.Goals.{Start}

-- the Board, and the begin's words
abbrev board : Start → Board
board s = board_in s.args.tables.now.board

abbrev begun : Start → List ℕ
begun s = let a = s.args in begun_words a.from.now.still (row_on (board s)) a.from.now.prices.now a.begin.now

-- whether the table is full
full_at : {x : Bool} {m n : ℕ} → x ≡ nat_le m n → x ≡ true → m ≤ n
full_at e h = leb-true _ _ (sym e ∙ h)

room_at : {x : Bool} {m n : ℕ} → x ≡ nat_le m n → x ≡ false → n < m
room_at e h = leb-false _ _ (sym e ∙ h)

pub returns-then-next-run-clause-offered : goal.returns-then-next-run-clause-offered
returns-then-next-run-clause-offered c =
    offered_above _ _ _ _ _ _ _ _ _ _ _ _ c.requires.room.few_nodes c.requires.room.count_few _ c.if-next-run.true

pub returns-then-is_dominated-clause-offered : goal.returns-then-is_dominated-clause-offered
returns-then-is_dominated-clause-offered c =
    offered_dominated _ _ _ _ _ _ _ _ _ _ _ _ c.requires.room.few_nodes c.requires.room.count_few _ c.if-next-run.false
    c.is_dominated.result c.is_dominated.ensures c.if-is_dominated.true

pub returns-then-is_full-clause-offered : goal.returns-then-is_full-clause-offered
returns-then-is_full-clause-offered c =
    offered_full _ _ _ _ _ _ _ _ _ _ _ _ c.requires.room.few_nodes c.requires.room.count_few _ c.if-next-run.false
    c.is_dominated.result c.is_dominated.ensures c.if-is_dominated.false (full_at c.is_full.ensures c.if-is_full.true)

pub settle_begin-swept-requires-clause-begin : goal.settle_begin-swept-requires-clause-begin
settle_begin-swept-requires-clause-begin c =
    (omega (arith, class_lt c.args.next.spot, c.class_of-class.ensures), omega (arith, c.fill_begin.auto.begin, c.requires.long.0))

pub keep-requires-clause-room : goal.keep-requires-clause-room
keep-requires-clause-room c =
    let room = c.requires.room in
    (omega (arith, room.few_nodes, (room_at c.is_full.ensures c.if-is_full.false)), rows_fit room (c.args.run.count + 1) (omega (arith, (room_at c.is_full.ensures c.if-is_full.false))))

pub returns-clause-offered : goal.returns-clause-offered
returns-clause-offered c =
    let s = (goal.at.returns-clause-offered c).Start in
    let d = c.is_dominated in
    let k = c.keep in
    let filled : c.fill_begin.new.begin ≡ begun s = rw c.states-states.ensures.is at c.fill_begin.ensures in
    offered_kept _ _ _ _ _ _ _ _ _ _ _ _ c.requires.room.few_nodes c.requires.room.count_few _ c.if-next-run.false
    d.result d.ensures c.if-is_dominated.false (room_at c.is_full.ensures c.if-is_full.false) c.requires.room.scan_long
    c.settle_begin-swept.new.begin (rw filled at c.settle_begin-swept.ensures.0) k.new.table k.new.scan k.result k.ensures
