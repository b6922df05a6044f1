use Rattle.std.proofs.Common.{refl, sym, ap, ◌∙◌, ℕ, le_antisymm, arith, leb}
use Rattle.loops.specs.Count.{all, sum}
use Rattle.whole.specs.Whole.Laws.{few_more, states_more, few_not, few_together}
use Rattle.whole.proofs.states_few.Goals as goal

pub loop-i-init : goal.loop-i-init
unfolding all sum
loop-i-init c = (omega arith, omega arith, refl, refl)

pub returns-then-states-gt256 : goal.returns-then-states-gt256
returns-then-states-gt256 c = sym (few_not _ _ _ _ c.loop-i.i (omega arith) (omega arith))

pub loop-i-preserved : goal.loop-i-preserved
loop-i-preserved c =
    let l = c.loop-i in (
      omega arith,
      omega arith,
      few_more _ _ _ l.i l.invariant.2 (omega arith),
      states_more _ _ _ l.i _ _ l.invariant.3 (omega arith),
    )

pub returns : goal.returns
returns c =
    let l = c.loop-i in
    let e = le_antisymm l.invariant.0 c.loop-i-test.false in
    ap (λ (x : ℕ). leb x 1024) (rw e at l.invariant.3) ∙ sym (few_together _ _ _ _ (rw e at l.invariant.2))
