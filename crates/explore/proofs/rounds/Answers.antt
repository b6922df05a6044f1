-- `explore::rounds` meets its contract: each round is the search's, from its start to its end. Assumes nothing.
use Rattle.std.proofs.Common.{◌≡◌, refl, ◌∙◌, arith, length, rules}
use Rattle.task.specs.Factors.{all_states}
use Rattle.layer.specs.Board.Laws.{row_on_lem}
use Rattle.layer.specs.Held.{board_in}
use Rattle.mets.specs.Known.{known_none}
use Rattle.explore.specs.Held.Rounds.{ahead_start, ahead_begun, ahead_room}
use Rattle.explore.proofs.rounds.Goals as goal

pub loop-after-init : goal.loop-after-init
loop-after-init c =
    let a = c.args in
    let t = a.tables.now.task.now in
    let r = c.start-run in
    (ahead_start t a.search.now.offers.nodes a.budget (all_states t) r.new.table r.new.scan r.result c.requires.nodes.0 r.ensures.0 r.ensures.1 r.ensures.2, known_none (board_in a.search.now.offers.board), refl)

pub next_round-requires-clause-begun : goal.next_round-requires-clause-begun
next_round-requires-clause-begun c =
    let a = c.args in
    let t = a.tables.now.task.now in
    let l = c.loop-after in
    omega (arith, ahead_begun t c.requires.suits.valid a.search.now.offers.nodes c.requires.nodes.1 a.budget (all_states t) l.table l.scan l.run l.invariant.0, c.requires.nodes.1)

pub next_round-requires-clause-long : goal.next_round-requires-clause-long
next_round-requires-clause-long c =
    let l = c.loop-after in
    let listed : length l.list ≡ 1024 = search rules in
    let roomy : length l.room ≡ 5120 = search rules in
    (omega (arith, listed), omega (arith, roomy))

pub next_round-requires-clause-room : goal.next_round-requires-clause-room
next_round-requires-clause-room c =
    let a = c.args in
    let t = a.tables.now.task.now in
    let b = board_in a.search.now.offers.board in
    let l = c.loop-after in
    let row = row_on_lem t b c.requires.suits.fits in
    let kept : length l.table ≡ length a.table.now = l.invariant.2 ∙ c.start-run.auto.table in
    let long : length l.scan ≡ 17696 = search rules in
    rw row
    (ahead_room t c.requires.suits.valid a.search.now.offers.nodes c.requires.nodes.1 a.budget (all_states t) l.table l.scan l.run l.invariant.0
    (rw row at a.search.now.offers.board.sound.few_all) (rw kept c.requires.nodes.2) long)

pub loop-after-smaller : goal.loop-after-smaller
loop-after-smaller c =
    let a = c.args in
    let t = a.tables.now.task.now in
    let l = c.loop-after in
    let told = c.in-Ok.ensures.rounded t c.requires.suits l.invariant.0 in
    omega (arith, told.1, ahead_begun t c.requires.suits.valid a.search.now.offers.nodes c.requires.nodes.1 a.budget (all_states t) l.table l.scan l.run l.invariant.0)

pub loop-after-preserved : goal.loop-after-preserved
loop-after-preserved c =
    let l = c.loop-after in
    let told = c.in-Ok.ensures.rounded c.args.tables.now.task.now c.requires.suits l.invariant.0 in
    (told.0, c.in-Ok.ensures.known, c.next_round.auto.table ∙ l.invariant.2)

pub returns-in-Err : goal.returns-in-Err
returns-in-Err c = c.in-Err.ensures.rounded c.args.tables.now.task.now c.requires.suits c.loop-after.invariant.0
