use Rattle.std.proofs.Common.{◌≡◌, sym, ap, ◌∙◌, ◌-◌, arith, length, take}
use Rattle.layer.specs.Board.{row_on, states_on, part_on, pass_on, begin_on}
use Rattle.layer.specs.Board.Turns.{moves_stay, leaf_passed, part_length, laid_none, laid_more, laid_rest}
use Rattle.layer.specs.Held.{board_in}
use Rattle.search.specs.Node.{least_of}
use Rattle.begins.specs.Begin.{risen_none, risen_more, risen_laid, part_copied, rest_copied}
use Rattle.begins.proofs.begin_moved.Goals as goal
use Rattle.begins.proofs.begin_moved.Goals.{After-leaf-states}

-- as many prices of the leaf are lent as it has states
many : (c : After-leaf-states) → length (part_on (board_in c.args.board.now) c.loop-i.i c.args.old.now) ≡ states_on (board_in c.args.board.now) c.loop-i.i
many c =
    let w = c.leaf-states.ensures in
    rw (w.begins, w.stops) at (part_length c.args.old.now c.leaf-states.result.start c.leaf-states.result.end (omega arith))

pub loop-i-init : goal.loop-i-init
loop-i-init c =
    record { laid = laid_none _ _ _ c.args.board.now.sound.bases_first; risen = risen_none _ _ c.args.low (omega (arith, c.ranges.low)) }

pub carry-rise-requires-clause-within : goal.carry-rise-requires-clause-within
carry-rise-requires-clause-within c =
    let w = c.leaf-states.ensures in
    let stay = moves_stay (board_in c.args.board.now) c.args.board.now.sound c.loop-i.i c.args.action c.loop-i-test.true c.requires.action_lt_actions in
    rw (c.states-row.ensures.is, w.begins, w.stops, many (goal.at.carry-rise-requires-clause-within c).After-leaf-states) stay

pub carry-rise-requires-clause-copied : goal.carry-rise-requires-clause-copied
carry-rise-requires-clause-copied c = λ d.
    let w = c.leaf-states in
    let laid = rw (sym w.ensures.begins) at c.loop-i.invariant.laid in
    let copied = rw c.states-row.ensures.is at c.copy_words.ensures in
    ap (take (w.result.end - w.result.start)) (laid_rest laid)
    ∙ part_copied (row_on (board_in c.args.board.now)) c.args.old.now c.args.new.now c.copy_words.new.into c.requires.prices.0 copied (w.result.end - w.result.start) w.result.start (omega arith)

pub loop-i-preserved : goal.loop-i-preserved
unfolding pass_on
loop-i-preserved c =
    let b = board_in c.args.board.now in
    let l = c.loop-i in
    let w = c.leaf-states in
    let laid = rw (sym w.ensures.begins) at l.invariant.laid in
    let passed : c.carry-rise.new.new ≡ pass_on b l.i c.args.action (part_on b l.i c.args.old.now) =
    c.carry-rise.ensures.passed ∙ rw (c.states-row.ensures.is, w.ensures.begins, w.ensures.stops) (leaf_passed b l.i c.args.action _ (many (goal.at.loop-i-preserved c).After-leaf-states)) in
    let rise = rw (w.ensures.begins, w.ensures.stops) at c.carry-rise.ensures.rise in
    record {
      laid = rw (sym w.ensures.stops) (laid_more _ l.i w.result.start w.result.end _ l.new _ (omega arith) (omega arith) laid passed c.carry-rise.auto.new);
      risen = risen_more _ _ l.i c.args.low l.key c.carry-rise.result _ l.invariant.risen (rise ∙ ap least_of passed) c.add_price-key.ensures;
    }

pub returns : goal.returns
unfolding begin_on pass_on
returns c =
    let b = board_in c.args.board.now in
    let l = c.loop-i in
    let all : l.i ≡ c.args.board.now.leaves = omega arith in
    let laid = rw all at l.invariant.laid.laid in
    let copied = rw c.states-row.ensures.is at c.copy_words.ensures in
    let behind = rest_copied (row_on b) c.args.old.now c.args.new.now c.copy_words.new.into c.requires.prices.0 copied in
    record {
      begun = rw behind at laid;
      risen = risen_laid b c.args.board.now.sound c.args.action c.args.old.now l.new _ c.args.low l.key (omega arith) laid (rw all at l.invariant.laid.long) (rw all at l.invariant.risen);
    }
