-- `expand::expand` meets its contract: the node's parts are read, the actions that need a turn are listed, and these have their turns. Assumes nothing.
use Rattle.std.proofs.Common.{◌≡◌, sym, ap, ◌∙◌, ℕ, ◌+◌, ◌*◌, ◌≤◌, ◌<◌, arith, length, rules}
use Rattle.layer.specs.Board.{Board, row_on}
use Rattle.layer.specs.Held.{board_in}
use Rattle.expand.specs.Held.Lists.{useful_front}
use Rattle.rows.specs.Reach.{reaches_front}
use Rattle.rows.specs.Row.Laws.{row_in_lem, row_word}
use Rattle.rows.specs.Sign.{sign_of}
use Rattle.offers.specs.Held.Laws.{row_has}
use Rattle.expand.proofs.expand.Goals as goal
use Rattle.expand.proofs.expand.Goals.{Start}

-- the Board that is lent, and node u's row, which lies within the table
abbrev board : Start → Board
board s = board_in s.args.tables.now.offers.board

row_fits : (s : Start) → s.args.u * (40 + row_on (board s)) + (40 + row_on (board s)) ≤ length s.args.table.now
row_fits s =
    let room = s.requires.room in
    let inside : s.args.u < s.args.tables.now.offers.nodes + 1 = omega (arith, s.requires.inside, room.count_few) in
    row_in_lem (row_on (board s)) (s.args.tables.now.offers.nodes + 1) s.args.u s.args.table.now inside room.table_long

row_at : (s : Start) (n : ℕ) → n ≡ row_on (board s) → s.args.u * (40 + n) + (40 + n) ≤ length s.args.table.now
row_at s n e = rw e (row_fits s)

pub slice_bounds-copy_words-end : goal.slice_bounds-copy_words-end
slice_bounds-copy_words-end c = omega (arith, row_at (goal.at.slice_bounds-copy_words-end c).Start c.states-states.result c.states-states.ensures.is)

pub slice_bounds-read_spot-end : goal.slice_bounds-read_spot-end
slice_bounds-read_spot-end c = omega (arith, row_at (goal.at.slice_bounds-read_spot-end c).Start c.states-states.result c.states-states.ensures.is)

pub bounds-table-at : goal.bounds-table-at
bounds-table-at c = omega (arith, row_at (goal.at.bounds-table-at c).Start c.states-states.result c.states-states.ensures.is)

pub bounds-table-at-2 : goal.bounds-table-at-2
bounds-table-at-2 c = omega (arith, row_at (goal.at.bounds-table-at-2 c).Start c.states-states.result c.states-states.ensures.is)

pub invariant_of-node : goal.invariant_of-node
invariant_of-node c =
    let s = (goal.at.invariant_of-node c).Start in
    let n = c.states-states.result in
    let is = c.states-states.ensures.is in
    let w = c.copy_words in
    let r = c.list_reached-reached in
    let has = row_has n c.args.u c.args.table.now c.read_spot.result w.new.into _ (row_at s n is) c.read_spot.ensures w.ensures in
    let prices_long : length c.args.desk.now.prices ≡ 1024 = search rules in
    let listed_in : r.result ≤ length r.new.list = omega (arith, r.ensures.lengths, r.ensures.listed.0, c.requires.long.0) in
    record {
      few = c.states-states.ensures.few;
      long = omega (arith, w.auto.into, prices_long, c.states-states.ensures.few);
      signed = rw is
          (sym (row_word (row_on (board s)) c.args.u c.args.table.now 39 (omega arith))
          ∙ c.requires.room.chained.signs c.args.u c.requires.inside ∙ ap sign_of (rw is at has).prices_is);
      reached = λ l. reaches_front n w.new.into r.new.list r.result listed_in (r.ensures.listed.1 l);
    }

pub list_turns-many-requires-clause-mets_len : goal.list_turns-many-requires-clause-mets_len
list_turns-many-requires-clause-mets_len c =
    (search rules, omega (arith, c.requires.inside, c.requires.room.count_few, c.requires.room.few_nodes), row_fits (goal.at.list_turns-many-requires-clause-mets_len c).Start)

pub turns-requires-clause-useful : goal.turns-requires-clause-useful
turns-requires-clause-useful c =
    let m = c.list_turns-many in
    let long : length c.args.desk.now.mets ≡ 256 = search rules in
    useful_front _ _ _ _ _ _ m.result m.new.mets (omega (arith, m.auto.mets, m.ensures.1, long)) m.ensures.2

pub turns-requires-clause-has : goal.turns-requires-clause-has
turns-requires-clause-has c =
    let s = (goal.at.turns-requires-clause-has c).Start in
    let n = c.states-states.result in
    let is = c.states-states.ensures.is in
    let has = row_has n c.args.u c.args.table.now c.read_spot.result c.copy_words.new.into _ (row_at s n is) c.read_spot.ensures c.copy_words.ensures in
    rw is (rw is at has)
