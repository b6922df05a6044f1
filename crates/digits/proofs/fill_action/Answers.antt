use Rattle.std.proofs.Common.{◌≡◌, refl, ◌∙◌, suc, ◌+◌, ◌≤◌, le_antisymm, not-suc-le-zero, add-one, arith, length, get_or}
use Rattle.digits.specs.Digits.{entries}
use Rattle.digits.specs.Digits.Laws.{start_before, row_more, row_same}
use Rattle.digits.specs.Paired.{counted, begins}
use Rattle.digits.proofs.fill_action.Goals as goal
use Rattle.digits.proofs.fill_action.Goals.{In-loop-i}

-- where the leaf's states begin, and their room
leaf_here : (c : In-loop-i) →
    let a = c.args in
    let i = c.loop-i.i in
    (get_or a.bases.now i 0 ≡ begins a.pairs.now i)
    × (a.from + (begins a.pairs.now i + counted a.pairs.now (suc i)) ≤ length a.moves.now)
leaf_here c =
    let p = c.args.pairs.now in
    let room = start_before p.variables (entries p.factors.now) (entries p.sizes.now) c.loop-i.i (length c.args.bases.now) c.loop-i-test.true in
    (c.requires.filled c.loop-i.i (omega arith), omega (arith, c.requires.room))

pub loop-i-init : goal.loop-i-init
loop-i-init c = (omega arith, refl, λ k o. refl, λ j x m o. absurd (not-suc-le-zero m))

pub overflow_add-from : goal.overflow_add-from
overflow_add-from c = let here = leaf_here (goal.at.overflow_add-from c).In-loop-i in omega arith

pub fill_leaf-requires : goal.fill_leaf-requires
fill_leaf-requires c =
    let pre = c.requires in
    let here = leaf_here (goal.at.fill_leaf-requires c).In-loop-i in
    let small = pre.by_index c.loop-i.i c.loop-i-test.true in
    record { room = rw add-one (omega (arith, c.loop-i.invariant.1)); small = rw add-one small }

pub loop-i-preserved : goal.loop-i-preserved
loop-i-preserved c =
    let a = c.args in
    let l = c.loop-i in
    let here = leaf_here (goal.at.loop-i-preserved c).In-loop-i in
    let p = a.pairs.now in
    let count : counted p (l.i + 1) ≡ counted p (suc l.i) = rw add-one in
    let filled = c.fill_leaf.ensures in
    let next = c.fill_leaf.new.moves in (
      omega arith,
      c.fill_leaf.auto.moves ∙ l.invariant.1,
      row_same p.variables (entries p.factors.now) (entries p.sizes.now) a.from l.i a.moves.now l.moves next here.0 count l.invariant.2 filled.same,
      row_more p.variables (entries p.factors.now) (entries p.sizes.now) _ _ a.from l.i l.moves next here.0 count l.invariant.3 filled.placed filled.same,
    )

pub returns : goal.returns
returns c =
    let l = c.loop-i in
    let e = le_antisymm l.invariant.0 c.loop-i-test.false in
    record { row = rw e at l.invariant.3; same = rw e at l.invariant.2 }
