-- `blocks::least_key` meets its contract: a full block has 16 words. Assumes nothing.
use Rattle.std.proofs.Common.{◌≡◌, sym, ◌∙◌, arith, length, rules}
use lib.Seq.{take-length}
use Rattle.blocks.specs.Block.Laws.{least_is, least_in-is}
use Rattle.blocks.proofs.least_key.Goals as goal

pub returns-then-keys-eq16 : goal.returns-then-keys-eq16
returns-then-keys-eq16 c =
    let K = c.args.keys.now in
    let full : length K ≡ 16 = c.if-keys-eq16.true in
    rw full (least_is K 0 16 c.least_block.result (search rules) c.least_block.ensures)

pub returns : goal.returns
returns c =
    let K = c.args.keys.now in
    c.least.ensures ∙ sym (rw take-length at (least_in-is K (length K) (omega arith)))
