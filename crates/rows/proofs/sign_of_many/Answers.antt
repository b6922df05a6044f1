use Rattle.std.proofs.Common.{◌≡◌, refl, sym, ◌∙◌, ◌+◌, ◌*◌, ◌/◌, ◌≤◌, ◌<◌, div-le_self, arith, length}
use Rattle.leaf.specs.Price.{mark}
use Rattle.leaf.specs.Settle.Turns.{at_any}
use Rattle.rows.specs.Sign.{sign_to, sign_of}
use Rattle.rows.specs.Sign.Laws.{one_bit, stride_many, look_in, sign_here, sign_kept}
use Rattle.rows.proofs.sign_of_many.Goals as goal
use Rattle.rows.proofs.sign_of_many.Goals.{In-loop-k, then-prices-k-lt-MARK, else-prices-k-lt-MARK}

-- the state that is looked at is one of all
inside : (c : In-loop-k) → let n = length c.args.prices.now in
    (c.loop-k.k * (n / 64) < n) × (c.loop-k.k < n)
inside c =
    let n = length c.args.prices.now in
    let step = n / 64 in
    let some : 1 ≤ step = omega (arith, c.requires) in
    (look_in n step c.loop-k.k some c.loop-k-test.true, omega (arith, c.loop-k-test.true, div-le_self n step))

pub loop-k-init : goal.loop-k-init
unfolding sign_to
loop-k-init c = (stride_many (length c.args.prices.now) c.requires, refl, omega arith, refl)

pub loop-k-preserved : goal.loop-k-preserved
loop-k-preserved c =
    let l = c.loop-k in
    let P = c.args.prices.now in
    let step = length P / 64 in
    let here = at_any P (l.k * step) mark 0 (inside (goal.at.loop-k-preserved c).In-loop-k).0 in
    let more : l.k + 1 ≤ length P / step = omega (arith, c.loop-k-test.true) in
    elim c.if-prices-k-lt-MARK.branch [
      | then-prices-k-lt-MARK w ↦
          let more-sign = sign_here step P l.k (omega (arith, here, w.if-prices-k-lt-MARK.true)) in
          (l.invariant.0, refl, omega arith, w.sign-is ∙ cc (one_bit l.k, l.invariant.3, more-sign))
      | else-prices-k-lt-MARK w ↦
          let kept = sign_kept step P l.k (omega (arith, here, w.if-prices-k-lt-MARK.false)) in
          (l.invariant.0, refl, omega arith, w.sign-is ∙ l.invariant.3 ∙ sym kept)
    ]

pub returns : goal.returns
unfolding sign_of
returns c =
    let l = c.loop-k in
    let P = c.args.prices.now in
    let step = length P / 64 in
    let all : l.k ≡ length P / step = omega (arith, c.loop-k-test.false, l.invariant.2) in
    l.invariant.3 ∙ rw (all, l.invariant.0)
