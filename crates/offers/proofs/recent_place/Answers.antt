-- `offers::recent_place` meets its contract: there are 4,096 recent numbers, behind 1,024 words. Assumes nothing.
use Rattle.std.proofs.Common.{◌<◌, arith}
use Rattle.nodes.specs.Chain.Laws.{slot_lt}
use Rattle.offers.proofs.recent_place.Goals as goal

pub overflow_add-result : goal.overflow_add-result
overflow_add-result c = let small : c.slot_of.result < 4096 = rw c.slot_of.ensures (slot_lt c.args.class c.args.sign) in omega (arith, small)

pub returns : goal.returns
returns c = let small : c.slot_of.result < 4096 = rw c.slot_of.ensures (slot_lt c.args.class c.args.sign) in omega (arith, small)
