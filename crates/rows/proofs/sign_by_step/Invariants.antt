-- `rows::sign_by_step` meets its contract. The invariant: `sign` has the signature's bits from state k on. Assumes nothing.
use Rattle.rows.specs.Sign.Few.{From}
use Rattle.rows.proofs.sign_by_step.Given as goal

abbrev pub invariant-loop-k : goal.invariant-loop-k
invariant-loop-k l = From l.prices l.step l.count l.k l.sign
