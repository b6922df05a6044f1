-- `rows::sign_of_many` meets its contract. The invariant: `sign` is the signature of the states looked at so far. Assumes nothing.
use Rattle.std.proofs.Common.{◌≡◌, ◌/◌, ◌≤◌, length}
use Rattle.rows.specs.Sign.{stride_of, sign_to}
use Rattle.rows.proofs.sign_of_many.Given as goal

abbrev pub invariant-loop-k : goal.invariant-loop-k
invariant-loop-k l =
    (l.step ≡ stride_of (length l.prices)) × (l.count ≡ length l.prices / l.step) × (l.k ≤ l.count) × (l.sign ≡ sign_to l.step l.prices l.k)
