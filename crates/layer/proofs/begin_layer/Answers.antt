use Rattle.std.proofs.Common.{◌≡◌, sym, ◌∙◌, ◌+◌, ◌*◌, ◌-◌, ◌≤◌, arith, length}
use Rattle.layer.specs.Board.{row_on, pass_on, begin_on}
use Rattle.layer.specs.Board.Turns.{moves_here, moves_stay, leaf_passed, part_length, laid_none, laid_more, laid_unreached}
use Rattle.layer.specs.Held.{board_in}
use Rattle.layer.proofs.begin_layer.Goals as goal
use Rattle.layer.proofs.begin_layer.Goals.{After-leaf-states}
use Rattle.layer.proofs.begin_layer.Invariants.{leaf}

pub loop-i-init : goal.loop-i-init
loop-i-init c = (omega arith, laid_none _ _ _ c.args.board.now.sound.bases_first)

-- the action's moves of the leaf lie within the moves
in_moves : (c : After-leaf-states) → c.args.action * c.states-row.result + c.leaf-states.result.start + (c.leaf-states.result.end - c.leaf-states.result.start)
    ≤ length c.args.board.now.moves.now
in_moves c =
    let s = c.leaf-states.ensures in
    rw (c.states-row.ensures.is, s.begins, s.stops) (moves_here (board_in c.args.board.now) c.args.board.now.sound c.loop-i.i c.args.action c.loop-i-test.true c.requires.0)

pub overflow_mul-at : goal.overflow_mul-at
overflow_mul-at c = omega (arith, c.well_formed, in_moves (goal.at.overflow_mul-at c).After-leaf-states)

pub overflow_add-at : goal.overflow_add-at
overflow_add-at c = omega (arith, c.well_formed, in_moves (goal.at.overflow_add-at c).After-leaf-states)

pub pass-requires : goal.pass-requires
pass-requires c =
    let b = board_in c.args.board.now in
    let s = c.leaf-states in
    let w = s.result in
    let old = part_length c.args.old.now w.start w.end (omega arith) in
    let laid = rw (sym s.ensures.begins) at c.loop-i.invariant.1 in
    let new = laid_unreached (row_on b) w.end laid (omega arith) (omega arith) c.requires.2 c.requires.3 in
    let stay = moves_stay b c.args.board.now.sound c.loop-i.i c.args.action c.loop-i-test.true c.requires.0 in
    (rw old new, rw old (in_moves (goal.at.pass-requires c).After-leaf-states), rw old (rw (c.states-row.ensures.is, s.ensures.begins, s.ensures.stops) stay))

pub loop-i-preserved : goal.loop-i-preserved
unfolding pass_on
loop-i-preserved c =
    let l = c.loop-i in
    let s = c.leaf-states in
    let w = s.result in
    let b = board_in c.args.board.now in
    let many = part_length c.args.old.now w.start w.end (omega arith) in
    let laid = rw (sym s.ensures.begins) at l.invariant.1 in
    let passed : c.pass.new.new ≡ leaf b c.args.action c.args.old.now l.i =
    c.pass.ensures ∙ rw (c.states-row.ensures.is, s.ensures.begins, s.ensures.stops) (leaf_passed b l.i c.args.action _ (rw (s.ensures.begins, s.ensures.stops) at many)) in
    (omega arith, rw (sym s.ensures.stops) (laid_more _ l.i w.start w.end _ l.new _ (omega arith) (omega arith) laid passed c.pass.auto.new))

pub shape_of-new : goal.shape_of-new
shape_of-new c = c.loop-i.invariant.1.kept

pub returns : goal.returns
unfolding begin_on pass_on
returns c =
    let all : c.loop-i.i ≡ c.args.board.now.leaves = omega arith in
    c.loop-i.invariant.1.laid ∙ rw all
