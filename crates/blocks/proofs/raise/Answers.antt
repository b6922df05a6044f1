-- `blocks::raise` meets its contract: the block's word is stored. Assumes nothing.
use Rattle.std.proofs.Common.{◌≡◌, ◌+◌, ◌-◌, ap, ℕ, arith, take, drop, length-drop}
use Rattle.blocks.specs.Block.{raised_to}
use Rattle.blocks.specs.Block.Laws.{least_part}
use Rattle.blocks.proofs.raise.Goals as goal

pub returns : goal.returns
unfolding raised_to
returns c =
    let a = c.args in
    let K = drop a.from a.scan.now in
    let count : a.from + a.count - a.from ≡ a.count = omega arith in
    rw (c.least_key-low.ensures, least_part K _ a.count (omega (arith, length-drop a.from a.scan.now)) (ap (λ (k : ℕ). take k K) count) _ a.block c.requires.2 c.keys_of_block.ensures)
