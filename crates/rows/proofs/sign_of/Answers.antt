-- `rows::sign_of` meets its contract: few prices, more of which 64 are looked at, and others. Assumes nothing.
use Rattle.std.proofs.Common.{sym, ◌∙◌}
use Rattle.rows.specs.Sign.Few.{sign_few, sign_even}
use Rattle.rows.proofs.sign_of.Goals as goal

pub returns-then-states-lt64 : goal.returns-then-states-lt64
returns-then-states-lt64 c = c.sign_by_step.ensures ∙ sym (sign_few c.args.prices.now c.if-states-lt64.true)

pub returns-then-states-step-eq64 : goal.returns-then-states-step-eq64
returns-then-states-step-eq64 c =
    c.sign_by_step-then-states-step-eq64.ensures
    ∙ sym (sign_even c.args.prices.now c.if-states-lt64.false c.if-states-step-eq64.true)
