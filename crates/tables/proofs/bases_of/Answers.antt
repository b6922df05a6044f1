use Rattle.std.proofs.Common.{◌≡◌, refl, ◌+◌, le_antisymm, arith, length-set}
use Rattle.loops.specs.Count.{sum}
use Rattle.digits.specs.Digits.{entries, start_of}
use Rattle.digits.specs.Digits.Laws.{start_capped, start_few}
use Rattle.whole.specs.Whole.Ext.{states_row}
use Rattle.tables.specs.Tables.Laws.{filled_more}
use Rattle.tables.proofs.bases_of.Goals as goal

pub loop-i-init : goal.loop-i-init
unfolding start_of sum
loop-i-init c = (omega arith, refl, refl, λ k m. let e : k ≡ 0 = omega arith in rw e)

pub overflow_add-sum : goal.overflow_add-sum
overflow_add-sum c =
    let a = c.args in
    let l = c.loop-i in
    let few = start_few a.variables (entries a.factors.now) (entries a.sizes.now) l.i (λ j m. c.requires.by_index j (omega arith)) in
    omega arith

pub loop-i-preserved : goal.loop-i-preserved
loop-i-preserved c =
    let a = c.args in
    let l = c.loop-i in
    let sum = start_capped _ _ _ l.i _ _ (c.requires.by_index l.i c.loop-i-test.true) l.invariant.2 (rw (← states_row a.variables a.factors.now (omega arith) a.sizes.now (l.i + 1)) c.states_capped.ensures) in (
      omega arith,
      simp length-set l.invariant.1,
      sum,
      filled_more _ (l.i + 1) l.bases (omega arith) l.invariant.3 sum,
    )

pub returns : goal.returns
returns c = let l = c.loop-i in (l.invariant.1, rw (le_antisymm l.invariant.0 c.loop-i-test.false) at l.invariant.3)
