use Rattle.std.proofs.Common.{◌≡◌, sym, ◌∙◌, arith}
use Rattle.layer.specs.Board.{row_on, first_on}
use Rattle.layer.specs.Board.Turns.{part_length, laid_none, laid_more, laid_unreached}
use Rattle.layer.specs.Held.{board_in}
use Rattle.layer.proofs.first_layer.Goals as goal

pub loop-i-init : goal.loop-i-init
loop-i-init c = (omega arith, laid_none _ _ _ c.args.board.now.sound.bases_first)

pub first_leaf-requires : goal.first_leaf-requires
first_leaf-requires c =
    let s = c.leaf-states in
    let w = s.result in
    let new = part_length c.loop-i.new w.start w.end (omega arith) in
    let laid = rw (sym s.ensures.begins) at c.loop-i.invariant.1 in (
      c.loop-i-test.true,
      omega (arith, new, c.requires.2 c.loop-i.i c.loop-i-test.true),
      laid_unreached (row_on (board_in c.args.board.now)) w.end laid (omega arith) (omega arith) c.requires.0 c.requires.3 ∙ rw (s.ensures.begins, s.ensures.stops),
    )

pub loop-i-preserved : goal.loop-i-preserved
loop-i-preserved c =
    let l = c.loop-i in
    let s = c.leaf-states in
    let w = s.result in
    let laid = rw (sym s.ensures.begins) at l.invariant.1 in
    (omega arith, rw (sym s.ensures.stops) (laid_more _ l.i w.start w.end _ l.new _ (omega arith) (omega arith) laid c.first_leaf.ensures c.first_leaf.auto.prices))

pub shape_of-new : goal.shape_of-new
shape_of-new c = c.loop-i.invariant.1.kept

pub returns : goal.returns
unfolding first_on
returns c =
    let all : c.loop-i.i ≡ c.args.board.now.leaves = omega arith in
    c.loop-i.invariant.1.laid ∙ rw all
