use Rattle.std.proofs.Common.{◌≡◌, refl, ap, sym, ◌∙◌, arith, length, drop}
use lib.ListN.{length-replicate}
use Rattle.task.specs.Meaning.{factor, initial}
use Rattle.task.specs.Centre.{centre_after}
use Rattle.task.specs.Star.{initial_centre}
use Rattle.leaf.specs.Price.{mark}
use Rattle.leaf.specs.Settle.Turns.{take_replicate}
use Rattle.layer.specs.Board.{row_on}
use Rattle.layer.specs.Held.{board_in}
use Rattle.tables.specs.Fit.{start_in}
use Rattle.price.specs.Path.{first_layer, walk}
use Rattle.paths.specs.Paths.Laws.{front, walk_first, walk_end, along_more, along_stuck}
use Rattle.paths.proofs.walk_path.Goals as goal
use Rattle.paths.proofs.walk_path.Goals.{Start, After-first_layer}

-- as many words are lent as there are states at most
long : (s : Start) → length s.args.layer.now ≡ 1024
long s = ap length s.requires.layer_value ∙ length-replicate 1024 mark

-- the walk begins with the task's first layer
begins : (c : After-first_layer) → front c.args.tables.now.task.now c.after-spot.result c.first_layer.new.new ≡ first_layer c.args.tables.now.task.now
begins c =
    let w = c.args.tables.now in
    let t = w.task.now in
    let b = board_in w.board in
    walk_first t b w.fits w.starts.now c.after-spot.result (drop (row_on b) c.args.layer.now) c.first_layer.new.new w.tabled.is_starts.is
    (c.after-spot.ensures ∙ ap (centre_after (factor t) (initial t)) c.default.ensures ∙ initial_centre t c.requires.valid) c.first_layer.ensures

pub first_layer-requires : goal.first_layer-requires
first_layer-requires c =
    let w = c.args.tables.now in
    let valid = c.requires.valid in (
      omega (arith, w.board.sound.few_all, long (goal.at.first_layer-requires c).Start),
      omega (arith, valid.fields.few_leaves, w.tabled.is_starts.long, w.fits.leaves_is),
      start_in w.task.now valid (board_in w.board) w.fits w.starts.now w.tabled.is_starts,
      rw c.requires.layer_value (take_replicate _ 1024 mark w.board.sound.few_all),
    )

pub loop-action-init : goal.loop-action-init
loop-action-init c =
    let kept : length c.first_layer.new.new ≡ length c.args.layer.now = c.first_layer.auto.new in
    (kept ∙ long (goal.at.loop-action-init c).Start, λ t f q. refl)

pub returns-in_err-spot : goal.returns-in_err-spot
returns-in_err-spot c =
    let w = c.args.tables.now in
    let l = c.loop-action in
    let k = l.action-index in
    rw c.from_residual.ensures
    (along_stuck (board_in w.board) w.task.now.effects c.args.path.now c.after-spot.result c.first_layer.new.new l.spot l.layer k (omega arith)
    (omega (arith, c.requires.by_index k (omega arith), w.fits.actions_is)) l.invariant.1 c.in_err-spot.ensures.none w.task.now w.fits refl
    ∙ ap (λ m. walk w.task.now m c.args.path.now) (begins (goal.at.returns-in_err-spot c).After-first_layer))

pub loop-action-preserved : goal.loop-action-preserved
loop-action-preserved c =
    let w = c.args.tables.now in
    let l = c.loop-action in
    let k = l.action-index in
    let kept : length c.advance.new.layer ≡ length l.layer = c.advance.auto.layer in (
      kept ∙ l.invariant.0,
      along_more (board_in w.board) w.task.now.effects c.args.path.now c.after-spot.result c.first_layer.new.new l.spot l.layer k (omega arith)
          (omega (arith, c.requires.by_index k (omega arith), w.fits.actions_is)) l.invariant.1 c.in_ok-spot.spot c.advance.new.layer c.in_ok-spot.ensures.some,
    )

pub returns : goal.returns
returns c =
    let t = c.args.tables.now.task.now in
    let l = c.loop-action in
    let p = c.args.path.now in
    sym (walk_end t (front t l.spot l.layer) p l.action-index (omega arith))
    ∙ l.invariant.1 t c.args.tables.now.fits refl
    ∙ ap (λ m. walk t m p) (begins (goal.at.returns c).After-first_layer)
