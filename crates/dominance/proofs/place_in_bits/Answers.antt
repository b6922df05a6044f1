use Rattle.std.proofs.Common.{◌-◌, ◌<◌, arith}
use lib.Bits.{and_le_r}
use lib.Count.{count_trailing_zeros}
use Rattle.rows.specs.Sign.Bits.{left_state, left_less}
use Rattle.dominance.proofs.place_in_bits.Goals as goal
use Rattle.dominance.proofs.place_in_bits.Goals.{In-loop-rest}

-- the next bit is that of a state
state : (t : In-loop-rest) → count_trailing_zeros 64 t.loop-rest.rest < t.args.candidate.now.states
state t =
    let l = t.loop-rest in
    let a = t.args.candidate.now in
    left_state t.args.row.now a.prices.now a.sign l.rest l.invariant.0 (omega arith) l.invariant.1 a.states a.long a.signed

pub bounds-row-k : goal.bounds-row-k
bounds-row-k c = omega (arith, state (goal.at.bounds-row-k c).In-loop-rest)

pub bounds-candidate-k : goal.bounds-candidate-k
bounds-candidate-k c = omega (arith, state (goal.at.bounds-candidate-k c).In-loop-rest, c.args.candidate.now.long)

pub loop-rest-preserved : goal.loop-rest-preserved
loop-rest-preserved c =
    let l = c.loop-rest in
    let a = c.args.candidate.now in
    (omega (arith, and_le_r l.rest (l.rest - 1)), left_less c.args.row.now a.prices.now a.sign l.rest l.invariant.0 (omega arith) l.invariant.1 c.if-row-k.false)
