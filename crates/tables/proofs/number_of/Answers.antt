use Rattle.std.proofs.Common.{refl, ◌∙◌, le_antisymm, arith}
use Rattle.loops.specs.Count.Laws.{told}
use Rattle.task.specs.Factors.{number_to}
use Rattle.digits.specs.Digits.{entries}
use Rattle.tables.specs.Tables.Laws.{number_on, number_by, number_fits}
use Rattle.tables.proofs.number_of.Goals as goal
use Rattle.tables.proofs.number_of.Goals.{then-is_factor, else-is_factor}

pub loop-v-init : goal.loop-v-init
unfolding number_to
loop-v-init c = (omega arith, refl)

pub overflow_cast-number : goal.overflow_cast-number
overflow_cast-number c = omega (arith, c.type_inv.sizes c.loop-v.v)

pub overflow_mul-number : goal.overflow_mul-number
overflow_mul-number c =
    let l = c.loop-v in
    let a = c.args in
    let e = told c.is_factor.ensures c.if-is_factor.true in
    let fits =
    number_fits (entries a.factors.now) (entries a.sizes.now) a.factor (entries a.values.now) l.v a.variables c.loop-v-test.true c.requires.by_index c.requires.variables_bound e l.invariant.1 in
    omega arith

pub overflow_cast-number-then-is_factor : goal.overflow_cast-number-then-is_factor
overflow_cast-number-then-is_factor c = omega (arith, c.type_inv.values c.loop-v.v)

pub overflow_add-number : goal.overflow_add-number
overflow_add-number c =
    let l = c.loop-v in
    let a = c.args in
    let e = told c.is_factor.ensures c.if-is_factor.true in
    let fits =
    number_fits (entries a.factors.now) (entries a.sizes.now) a.factor (entries a.values.now) l.v a.variables c.loop-v-test.true c.requires.by_index c.requires.variables_bound e l.invariant.1 in
    omega arith

pub loop-v-preserved : goal.loop-v-preserved
loop-v-preserved c =
    let l = c.loop-v in (
      omega arith,
      elim c.if-is_factor.branch [
        | then-is_factor w ↦ w.number-is ∙ number_on _ _ _ _ l.v (told c.is_factor.ensures w.if-is_factor.true) l.invariant.1
        | else-is_factor w ↦ w.number-is ∙ l.invariant.1 ∙ number_by _ _ _ _ _ (told c.is_factor.ensures w.if-is_factor.false)
      ],
    )

pub returns : goal.returns
returns c = rw (le_antisymm c.loop-v.invariant.0 c.loop-v-test.false) at c.loop-v.invariant.1
