-- `layer::pair_too` meets its contract. Each return computes, with the tests that led there. Assumes nothing.
use Rattle.std.proofs.Common.{sym, eq-eqb, ne_eqb}
use mathlib.Core.Bool.{and-true, and-false}
use Rattle.layer.proofs.pair_too.Goals as goal

pub returns-then-factor-ne0 : goal.returns-then-factor-ne0
returns-then-factor-ne0 c = let a = c.args in rw (ne_eqb a.factor 0 c.if-factor-ne0.true) (sym (and-true a.holds))

pub returns-then-pair-eq-FREE : goal.returns-then-pair-eq-FREE
returns-then-pair-eq-FREE c = let a = c.args in rw (eq-eqb a.factor 0 c.if-factor-ne0.false, eq-eqb a.pair 16 c.if-pair-eq-FREE.true) (sym (and-true a.holds))

pub returns-then-pair-value : goal.returns-then-pair-value
returns-then-pair-value c =
    let a = c.args in
    rw (eq-eqb a.factor 0 c.if-factor-ne0.false, ne_eqb a.pair 16 c.if-pair-eq-FREE.false, ne_eqb a.pair a.value c.if-pair-value.true) (sym (and-false a.holds))

pub returns : goal.returns
returns c =
    let a = c.args in
    rw (eq-eqb a.factor 0 c.if-factor-ne0.false, ne_eqb a.pair 16 c.if-pair-eq-FREE.false, eq-eqb a.pair a.value c.if-pair-value.false) (sym (and-true a.holds))
