-- `rows::pack` meets its contract: eight bytes are the digits of a word. Assumes nothing.
use Rattle.std.proofs.Common.{◌≡◌, ap, ℕ, ◌+◌, arith, get_or}
use Rattle.rows.specs.Row.{pack_to}
use Rattle.rows.proofs.pack.Goals as goal

pub returns : goal.returns
unfolding pack_to
returns c =
    let a = c.args in
    let e : get_or a.spot.values (a.from + 0) 0 ≡ get_or a.spot.values a.from 0 = ap (λ (i : ℕ). get_or a.spot.values i 0) (omega arith) in
    omega (arith, c.from_le_bytes.ensures)
