-- `rows::read_spot` meets its contract. The invariant: the values so far are the bytes of the row's packs. Assumes nothing.
use Rattle.std.proofs.Common.{◌≡◌, ℕ, ◌*◌, ◌<◌, length, get_or}
use Rattle.rows.specs.Row.{byte_in}
use Rattle.rows.proofs.read_spot.Given as goal

abbrev pub invariant-loop-k : goal.invariant-loop-k
invariant-loop-k l = (length l.values ≡ 32) × ((v : ℕ) → v < l.k * 8 → get_or l.values v 0 ≡ byte_in l.row v)
