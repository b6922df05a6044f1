use Rattle.std.proofs.Common.{◌≡◌, sym, ap, ◌∙◌, List, ℕ, ◌-◌, arith, take}
use Rattle.layer.specs.Board.{settle_on, settled_on}
use Rattle.layer.specs.Board.Turns.{laid_none, laid_more, laid_rest}
use Rattle.layer.specs.Held.{board_in}
use Rattle.layer.proofs.settle_layer.Goals as goal
use Rattle.layer.proofs.settle_layer.Invariants.{leaf}

pub loop-i-init : goal.loop-i-init
loop-i-init c = (omega arith, laid_none _ _ _ c.args.board.now.sound.bases_first)

pub loop-i-preserved : goal.loop-i-preserved
loop-i-preserved c =
    let l = c.loop-i in
    let s = c.leaf-states in
    let w = s.result in
    let laid = rw (sym s.ensures.begins) at l.invariant.1 in
    let settled : c.settle_leaf.new.prices ≡ leaf (board_in c.args.board.now) c.args.centre c.args.new.now l.i = c.settle_leaf.ensures ∙ ap (λ (xs : List ℕ). settle_on (board_in c.args.board.now) l.i c.args.centre (take (w.end - w.start) xs)) (laid_rest laid)
    ∙ rw (s.ensures.begins, s.ensures.stops) in
    (omega arith, rw (sym s.ensures.stops) (laid_more _ l.i w.start w.end _ l.new _ (omega arith) (omega arith) laid settled c.settle_leaf.auto.prices))

pub shape_of-new : goal.shape_of-new
shape_of-new c = c.loop-i.invariant.1.kept

pub returns : goal.returns
unfolding settled_on
returns c =
    let all : c.loop-i.i ≡ c.args.board.now.leaves = omega arith in
    c.loop-i.invariant.1.laid ∙ rw all
