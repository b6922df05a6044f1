-- `blocks::least_four` meets its contract. Assumes nothing.
use Rattle.std.proofs.Common.{◌≡◌, refl, ◌+◌, ◌*◌, arith}
use Rattle.blocks.specs.Block.Laws.{least_one, least_quarters}
use Rattle.blocks.proofs.least_four.Goals as goal

pub returns : goal.returns
returns c =
    let a = c.args in
    let C = a.words.now in
    let f = a.from in
    let two : f + 2 ≡ f + 2 * 1 = omega arith in
    let three : f + 3 ≡ f + 3 * 1 = omega arith in
    rw (c.min.ensures, c.min-high.ensures, c.min-low.ensures)
    (least_quarters C f (f + 1) (f + 2) (f + 3) 1 _ _ _ _ refl two three (least_one C f) (least_one C (f + 1)) (least_one C (f + 2)) (least_one C (f + 3)))
