use Rattle.std.proofs.Common.{◌≡◌, ◌+◌, ◌-◌, ◌*◌, ◌^◌, ◌<◌, arith, ltb, get_or}
use mir.Val.{bool_byte}
use Rattle.leaf.specs.Price.{mark}
use Rattle.rows.specs.Sign.Few.{From, from_lt, from_down, from_all}
use Rattle.rows.proofs.sign_by_step.Goals as goal
use Rattle.rows.proofs.sign_by_step.Goals.{In-loop-k}

-- with the next bit the number is still a word
next : (c : In-loop-k) → let a = c.args in
    let k = c.loop-k.k in
    let s = c.loop-k.sign * 2 + bool_byte (ltb (get_or a.prices.now ((k - 1) * a.step) 0) mark) in
    From a.prices.now a.step a.count (k - 1) s × (s < 2 ^ 64)
next c =
    let a = c.args in
    let l = c.loop-k in
    let down = from_down a.prices.now a.step a.count l.k l.sign (omega arith) (omega arith) c.requires.1 c.requires.0 c.requires.2 l.invariant in
    (down, from_lt a.prices.now a.step a.count (l.k - 1) _ c.requires.1 down)

pub overflow_mul-sign : goal.overflow_mul-sign
overflow_mul-sign c = omega (arith, (next (goal.at.overflow_mul-sign c).In-loop-k).1)

pub overflow_add-sign : goal.overflow_add-sign
overflow_add-sign c = omega (arith, (next (goal.at.overflow_add-sign c).In-loop-k).1)

pub loop-k-preserved : goal.loop-k-preserved
loop-k-preserved c = (next (goal.at.loop-k-preserved c).In-loop-k).0

pub returns : goal.returns
returns c =
    let a = c.args in
    let l = c.loop-k in
    let none : l.k ≡ 0 = omega arith in
    from_all a.prices.now a.step a.count l.sign (rw none at l.invariant)
