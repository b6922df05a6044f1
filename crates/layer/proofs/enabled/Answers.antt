use Rattle.std.proofs.Common.{refl, sym, ap, ◌∙◌, le_antisymm, arith, length, length-append, length-set}
use Rattle.layer.specs.Board.{enabled_on}
use Rattle.layer.specs.Board.Turns.{enabled_here, enabled_not, push_more}
use Rattle.layer.specs.Held.{board_in}
use Rattle.layer.proofs.enabled.Goals as goal
use Rattle.layer.proofs.enabled.Goals.{then-is_enabled, else-is_enabled}

pub loop-a-init : goal.loop-a-init
unfolding enabled_on
loop-a-init c = (omega arith, omega arith, refl, refl, refl)

pub loop-a-preserved : goal.loop-a-preserved
loop-a-preserved c =
    let l = c.loop-a in
    let s = c.args in
    let b = board_in s.board.now in
    elim c.if-is_enabled.branch [
      | then-is_enabled w ↦ let e = enabled_here b s.i s.centre l.a (sym c.is_enabled.ensures ∙ w.if-is_enabled.true) in (
        omega arith,
        omega (arith, w.count-is),
        ap length w.acts-is ∙ simp length-set l.invariant.2,
        rw (e, w.count-is) (simp length-append (omega (arith, l.invariant.3))),
        rw (e, w.acts-is, w.count-is, l.invariant.4) (push_more (enabled_on b s.i s.centre l.a) s.acts.now l.count l.a l.invariant.3 (omega arith)),
      )
      | else-is_enabled w ↦ let e = enabled_not b s.i s.centre l.a (sym c.is_enabled.ensures ∙ w.if-is_enabled.false) in
          (omega arith, omega (arith, w.count-is), ap length w.acts-is ∙ l.invariant.2, rw (e, w.count-is) l.invariant.3, rw (e, w.acts-is, w.count-is) l.invariant.4)
    ]

pub shape_of-acts : goal.shape_of-acts
shape_of-acts c = c.loop-a.invariant.2

pub returns : goal.returns
returns c =
    let all = le_antisymm c.loop-a.invariant.0 c.loop-a-test.false in
    record { many = rw all at c.loop-a.invariant.3; written = rw all at c.loop-a.invariant.4 }
