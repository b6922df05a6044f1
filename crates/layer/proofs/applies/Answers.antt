use Rattle.std.proofs.Common.{◌≡◌, refl, sym, ◌∙◌, ◌+◌, ◌*◌, ◌-◌, ◌≤◌, arith, length}
use Rattle.loops.specs.Count.{all}
use Rattle.loops.specs.Count.Laws.{all_more, all_not}
use Rattle.layer.specs.Board.{passes_on, applies_on}
use Rattle.layer.specs.Board.Turns.{moves_here, part_length, leaf_passes}
use Rattle.layer.specs.Held.{board_in}
use Rattle.layer.proofs.applies.Goals as goal
use Rattle.layer.proofs.applies.Goals.{After-leaf-states, After-passes}
use Rattle.layer.proofs.applies.Invariants.{passed}

-- what is tested of a leaf
tested : (c : After-passes) → c.passes.result ≡ passed (board_in c.args.board.now) c.args.action c.args.old.now c.loop-i.i
tested c =
    let s = c.leaf-states in
    let w = s.result in
    let many = part_length c.args.old.now w.start w.end (omega arith) in
    c.passes.ensures
    ∙ rw (c.states-row.ensures.is, s.ensures.begins, s.ensures.stops) (leaf_passes (board_in c.args.board.now) c.loop-i.i c.args.action _ (rw (s.ensures.begins, s.ensures.stops) at many))

-- the action's moves of the leaf lie within the moves
in_moves : (c : After-leaf-states) → c.args.action * c.states-row.result + c.leaf-states.result.start + (c.leaf-states.result.end - c.leaf-states.result.start)
    ≤ length c.args.board.now.moves.now
in_moves c =
    let s = c.leaf-states.ensures in
    rw (c.states-row.ensures.is, s.begins, s.stops) (moves_here (board_in c.args.board.now) c.args.board.now.sound c.loop-i.i c.args.action c.loop-i-test.true c.requires.0)

pub is_met-requires : goal.is_met-requires
is_met-requires c = omega (arith, c.requires.0, c.args.board.now.sound.few_actions, c.args.board.now.sound.conditions_long)

pub returns-then-not-is_met : goal.returns-then-not-is_met
unfolding applies_on
returns-then-not-is_met c = rw (sym c.is_met.ensures ∙ c.if-not-is_met.true)

pub loop-i-init : goal.loop-i-init
unfolding all
loop-i-init c = (omega arith, refl)

pub overflow_mul-at : goal.overflow_mul-at
overflow_mul-at c = omega (arith, c.well_formed, in_moves (goal.at.overflow_mul-at c).After-leaf-states)

pub overflow_add-at : goal.overflow_add-at
overflow_add-at c = omega (arith, c.well_formed, in_moves (goal.at.overflow_add-at c).After-leaf-states)

pub passes-requires : goal.passes-requires
passes-requires c =
    let s = c.leaf-states.result in
    rw (part_length c.args.old.now s.start s.end (omega arith)) (in_moves (goal.at.passes-requires c).After-leaf-states)

pub returns-then-not-passes : goal.returns-then-not-passes
unfolding applies_on
returns-then-not-passes c =
    rw (sym c.is_met.ensures ∙ c.if-not-is_met.false)
    (sym (all_not _ _ c.loop-i.i c.loop-i-test.true (sym (tested (goal.at.returns-then-not-passes c).After-passes) ∙ c.if-not-passes.true)))

pub loop-i-preserved : goal.loop-i-preserved
unfolding passes_on
loop-i-preserved c =
    let l = c.loop-i in
    (omega arith, all_more l.i _ l.invariant.1 (sym (tested (goal.at.loop-i-preserved c).After-passes) ∙ c.if-not-passes.false))

pub returns : goal.returns
unfolding applies_on passes_on
returns c =
    let every : c.loop-i.i ≡ c.args.board.now.leaves = omega arith in
    rw (sym c.is_met.ensures ∙ c.if-not-is_met.false) (sym (rw every at c.loop-i.invariant.1))
