-- `begins::begin_of` meets its contract: behind an action that leaves all leaf states as they are the begin is the old layer. Assumes nothing.
use Rattle.std.proofs.Common.{refl, arith, get_or, drop}
use Rattle.layer.specs.Board.{row_on}
use Rattle.layer.specs.Held.{board_in}
use Rattle.rows.specs.Begun.{begun_words, begun_moved, begun_stays}
use Rattle.begins.specs.Begin.{begun_still}
use Rattle.begins.proofs.begin_of.Goals as goal

pub returns-then-still-a-ne0 : goal.returns-then-still-a-ne0
returns-then-still-a-ne0 c =
    let a = c.args in
    let b = board_in a.board.now in
    let still = get_or a.still.now a.a 0 in
    let moved = c.if-still-a-ne0.true in
    let old = begun_still b a.board.now.sound a.a a.old.now (drop (row_on b) a.next.now) a.low a.sign (omega (arith, c.ranges.low)) c.requires.prices.0 (λ x. omega (arith, c.type_inv.old x))
    (c.requires.still.stays a.a c.requires.a_lt_actions moved) c.requires.sign_value (begun_words still (row_on b) a.old.now a.next.now) (begun_stays still (row_on b) a.old.now a.next.now moved) in
    record { begun = old.0; risen = old.1; sign = old.2; stays = λ _. refl }

pub returns : goal.returns
returns c =
    let a = c.args in
    let n = c.begin_moved-key in
    let stays = c.if-still-a-ne0.false in
    rw (begun_moved (get_or a.still.now a.a 0) (row_on (board_in a.board.now)) a.old.now n.new.new stays)
    (record { begun = n.ensures.begun; risen = n.ensures.risen; sign = rw c.states.ensures.is at c.sign_of-made.ensures; stays = λ d. absurd (d stays) })
