-- `dominance::place_by_sign` meets its contract. Where the bits give no place, no price below 64 is higher. Assumes nothing.
use Rattle.std.proofs.Common.{ℕ, ◌≤◌, arith}
use Rattle.rows.specs.Row.{NotAbove}
use Rattle.rows.specs.Sign.Bits.{bits_none}
use Rattle.dominance.proofs.place_by_sign.Goals as goal
use Rattle.dominance.proofs.place_by_sign.Goals.{In_default}

-- no price below m is higher
below : (t : In_default) → let a = t.args in (m : ℕ) → m ≤ a.candidate.now.states → m ≤ 64 → NotAbove a.row.now a.candidate.now.prices.now m
below t m =
    let a = t.args.candidate.now in
    bits_none a.states t.args.row.now a.prices.now a.sign t.requires.0 a.long a.signed (λ i. omega (arith, t.type_inv.row i)) t.in_default.ensures m

pub returns-then-candidate-le64 : goal.returns-then-candidate-le64
returns-then-candidate-le64 c = below (goal.at.returns-then-candidate-le64 c).In_default _ (omega arith) (omega arith)

pub place_from-requires : goal.place_from-requires
place_from-requires c =
    (c.requires.1, omega arith, below (goal.at.place_from-requires c).In_default _ (omega arith) (omega arith))
