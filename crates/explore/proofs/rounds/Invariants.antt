-- `explore::rounds` meets its contract: before each round what is left of the search is the whole, and each begins another expansion. Assumes nothing.
use Rattle.std.proofs.Common.{suc, ◌-◌, ◌≡◌, length}
use Rattle.task.specs.Factors.{all_states}
use Rattle.layer.specs.Held.{board_in}
use Rattle.mets.specs.Known.{Known}
use Rattle.explore.specs.Held.Rounds.{Ahead}
use Rattle.explore.proofs.rounds.Given as goal

abbrev pub invariant-loop-after : goal.invariant-loop-after
invariant-loop-after l =
    let t = l.tables.task.now in
    Ahead t l.search.offers.nodes l.budget (all_states t) l.table l.scan l.run
    × Known (board_in l.search.offers.board) l.desk.known
    × (length l.table ≡ length l.initial.table)

abbrev pub decreases-loop-after : goal.decreases-loop-after
decreases-loop-after l = suc l.search.offers.nodes - l.run.begun
