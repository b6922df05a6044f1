-- `expand::turns` meets its contract. The invariant: what is left of the expansion from behind the last action that had its turn is the whole. Assumes nothing.
use Rattle.std.proofs.Common.{◌≡◌, get_or, length}
use Rattle.layer.specs.Held.{board_in}
use Rattle.mets.specs.Listed.{past}
use Rattle.mets.specs.Known.{Known}
use Rattle.expand.specs.Held.Turns.{Passed}
use Rattle.expand.proofs.turns.Given as goal

abbrev pub invariant-loop-a : goal.invariant-loop-a
invariant-loop-a l =
    let t = l.tables in
    let o = l.opened in
    Passed (board_in t.offers.board) t.effects.now t.offers.goals.now t.offers.goal t.offers.nodes o.number o.key l.initial.table l.initial.scan l.initial.going l.table l.scan l.going
    (past (λ i. get_or l.mets i 0) l.a-index)
    × Known (board_in t.offers.board) l.known
    × (length l.begin ≡ length l.initial.begin)
    × (length l.room ≡ length l.initial.room)
