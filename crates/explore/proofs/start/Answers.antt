-- `explore::start` meets its contract: the first layer's prices by tables are node 0's, and node 0 is kept. Assumes nothing.
use Rattle.std.proofs.Common.{◌≡◌, ap, ◌∙◌, arith, length, drop, replicate, rules}
use Rattle.task.specs.Meaning.{factor, initial}
use Rattle.task.specs.Centre.{centre_after}
use Rattle.task.specs.Star.{initial_centre}
use Rattle.leaf.specs.Price.{mark}
use Rattle.leaf.specs.Settle.Turns.{take_replicate}
use Rattle.layer.specs.Board.{row_on}
use Rattle.layer.specs.Board.Laws.{row_on_lem}
use Rattle.layer.specs.Held.{board_in}
use Rattle.tables.specs.Fit.{start_in}
use Rattle.explore.specs.Held.Start.{start_is}
use Rattle.explore.proofs.start.Goals as goal

pub first_layer-requires : goal.first_layer-requires
first_layer-requires c =
    let t = c.args.tables.now in
    let s = c.args.search.now in
    let suits = c.requires.suits in
    let h = t.tabled.is_starts in (
      s.offers.board.sound.few_all,
      omega (arith, suits.valid.fields.few_leaves, h.long, suits.fits.leaves_is),
      start_in t.task.now suits.valid (board_in s.offers.board) suits.fits t.starts.now h,
      take_replicate _ 1024 mark s.offers.board.sound.few_all,
    )

pub keep-requires-clause-room : goal.keep-requires-clause-room
keep-requires-clause-room c =
    let row = row_on_lem c.args.tables.now.task.now (board_in c.args.search.now.offers.board) c.requires.suits.fits in
    (omega arith, omega (arith, row, c.requires.table))

pub returns : goal.returns
returns c =
    let t = c.args.tables.now.task.now in
    let s = c.args.search.now in
    let suits = c.requires.suits in
    let f = c.first_layer in
    let k = c.keep in
    let spot = rw suits.fits.factors_is at c.after-spot.ensures ∙ ap (centre_after (factor t) (initial t)) c.default.ensures ∙ initial_centre t suits.valid in
    let long : length c.args.scan.now ≡ 17696 = search rules in
    start_is t (board_in s.offers.board) s.effects.now s.offers.goals.now s.offers.goal suits c.args.tables.now.starts.now c.args.tables.now.tabled.is_starts
    c.after-spot.result (drop (row_on (board_in s.offers.board)) (replicate 1024 mark)) f.new.new
    spot f.ensures c.args.table.now c.args.scan.now c.fresh.new.scan k.new.table k.new.scan k.result
    c.key_of.result long c.requires.heads c.fresh.ensures c.key_of.ensures k.ensures
