-- `dominance::place_in_bits` meets its contract. The invariant: where a bit of the signature is gone, no price is higher. The measure is `rest`
-- itself, which loses a bit with each turn. Assumes nothing.
use Rattle.std.proofs.Common.{◌^◌, ◌<◌}
use Rattle.rows.specs.Sign.Bits.{Left}
use Rattle.dominance.proofs.place_in_bits.Given as goal

abbrev pub invariant-loop-rest : goal.invariant-loop-rest
invariant-loop-rest l = (l.rest < 2 ^ 64) × Left l.row l.candidate.prices.now l.candidate.sign l.rest

abbrev pub decreases-loop-rest : goal.decreases-loop-rest
decreases-loop-rest l = l.rest
