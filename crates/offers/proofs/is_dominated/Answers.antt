-- `offers::is_dominated` meets its contract: the prices are read where they stand, and a list for them. Assumes nothing.
use Rattle.std.proofs.Common.{◌≡◌, sym, ap, ◌∙◌, List, ℕ, ◌≤◌, arith, length, take}
use Rattle.layer.specs.Board.{row_on}
use Rattle.layer.specs.Held.{board_in}
use Rattle.rows.specs.Begun.{begun_words, read_from, read_begun, read_long, read_reaches}
use Rattle.rows.specs.Reach.{reaches_front}
use Rattle.rows.specs.Sign.{sign_of}
use Rattle.rows.specs.Sign.Laws.{class_lt}
use Rattle.nodes.specs.Chain.Walk.{dominator_tells}
use Rattle.offers.specs.Held.Laws.{read_is, rows_fit}
use Rattle.offers.proofs.is_dominated.Goals as goal
use Rattle.offers.proofs.is_dominated.Goals.{Start}

-- S, the begin's words, and the list that was made for them
abbrev S : Start → ℕ
S s = row_on (board_in s.args.tables.now.board)

abbrev begun : Start → List ℕ
begun s = let a = s.args in begun_words a.from.now.still (S s) a.from.now.prices.now a.begin.now

-- the prices that are read are those of the begin
read_take : (s : Start) (r : List ℕ) → r ≡ (let a = s.args in read_from a.from.now.still a.from.now.prices.now a.begin.now) → take (S s) r ≡ take (S s) (begun s)
read_take s r e = let a = s.args in ap (take (S s)) e ∙ read_begun a.from.now.still (S s) a.from.now.prices.now a.begin.now s.requires.old.0

pub recent_place-place-requires : goal.recent_place-place-requires
recent_place-place-requires c = omega (arith, class_lt c.args.next.spot, c.class_of-class.ensures)

pub invariant_of-candidate : goal.invariant_of-candidate
invariant_of-candidate c =
    let s = (goal.at.invariant_of-candidate c).Start in
    let a = c.args in
    let old = a.from.now in
    let m = c.list_begin-many in
    let made_in : m.result ≤ length m.new.room = omega (arith, m.ensures.0, m.auto.room, c.requires.long.1) in
    let is = c.states-states.ensures.is in
    let e = c.read_from.ensures in
    let f = c.read_from-2.ensures in
    let prices = read_is old.still old.prices.now a.begin.now c.read_from.result.now e.moves e.stays in
    let list = read_is old.still old.list.now (take m.result m.new.room) c.read_from-2.result.now f.moves f.stays in
    let made = rw is at m.ensures.1 in
    record {
      few = c.states-states.ensures.few;
      long = rw (is, prices) (read_long old.still (S s) old.prices.now a.begin.now c.requires.old.0 c.requires.long.0);
      signed = rw is (c.requires.sign ∙ ap sign_of (sym (read_take s c.read_from.result.now prices)));
      reached = rw (is, prices, list)
          (read_reaches old.still (S s) old.prices.now a.begin.now old.list.now (take m.result m.new.room) c.requires.old.1
          (λ z l. reaches_front (S s) a.begin.now m.new.room m.result made_in (made z l)));
    }

pub dominator-found-requires-clause-chained : goal.dominator-found-requires-clause-chained
dominator-found-requires-clause-chained c =
    let room = c.requires.room in
    let is = c.states-states.ensures.is in
    (omega (arith, room.count_few, room.few_nodes), rw is (rows_fit room c.args.run.count (omega (arith, room.count_few))), rw is room.chained)

pub returns : goal.returns
returns c =
    let s = (goal.at.returns c).Start in
    let a = c.args in
    let e = c.read_from.ensures in
    let prices = read_is a.from.now.still a.from.now.prices.now a.begin.now c.read_from.result.now e.moves e.stays in
    let told = dominator_tells _ _ _ _ c.dominator-found.result c.dominator-found.ensures in
    c.is_some.ensures ∙ rw (c.states-states.ensures.is, read_take s c.read_from.result.now prices) at told
