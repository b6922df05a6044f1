use Rattle.std.proofs.Common.{refl, ◌∙◌, ◌+◌, ◌<◌, le_antisymm, arith, length, length-set}
use Rattle.digits.specs.Moves.Laws.{some_states}
use Rattle.digits.specs.Digits.{entries}
use Rattle.digits.specs.Paired.{counted}
use Rattle.digits.specs.Digits.Laws.{same_set, partly_none}
use Rattle.digits.proofs.fill_leaf.Goals as goal
use Rattle.digits.proofs.fill_leaf.Goals.{Start}

-- there is an entry for the first state
first : (s : Start) →
    let a = s.args in
    (a.from < a.from + counted a.pairs.now a.leaf) × (a.from < length a.moves.now)
first s =
    let one = some_states _ _ (entries s.args.pairs.now.conditions.now) _ s.args.leaf s.args.pairs.now.variables s.requires.small in
    (omega arith, omega (arith, s.requires.room))

pub offset_bounds-moves-from : goal.offset_bounds-moves-from
offset_bounds-moves-from c = omega (arith, first (goal.at.offset_bounds-moves-from c).Start)

pub bounds-moves-from : goal.bounds-moves-from
bounds-moves-from c = omega (arith, first (goal.at.bounds-moves-from c).Start)

pub loop-v-init : goal.loop-v-init
loop-v-init c =
    (omega arith, refl, λ k o. refl, partly_none _ _ _ _ _ c.args.from c.args.moves.now (first (goal.at.loop-v-init c).Start).1)

pub fill_variable-states-requires : goal.fill_variable-states-requires
fill_variable-states-requires c =
    let l = c.loop-v in
    let long = simp length-set at l.invariant.1 in
    record { v_in_bounds = c.loop-v-test.true; room = omega (arith, c.requires.room); small = c.requires.small; partly = l.invariant.3 }

pub loop-v-preserved : goal.loop-v-preserved
loop-v-preserved c =
    let l = c.loop-v in
    let did = c.fill_variable-states in (
      omega arith,
      did.auto.moves ∙ l.invariant.1,
      λ k o. did.ensures.same k o ∙ l.invariant.2 k o,
      did.ensures.partly,
    )

pub shape_of-moves : goal.shape_of-moves
shape_of-moves c = simp length-set at c.loop-v.invariant.1

pub returns : goal.returns
returns c =
    let l = c.loop-v in
    let a = c.args in
    let e = le_antisymm l.invariant.0 c.loop-v-test.false in
    let all = rw e at l.invariant.3 in
    let own = first (goal.at.returns c).Start in
    record { placed = rw all.count at all.placed; same = λ k o. l.invariant.2 k o ∙ same_set a.from _ a.moves.now a.moves.now a.from 1 (omega arith) own.0 (λ j p. refl) k o }
