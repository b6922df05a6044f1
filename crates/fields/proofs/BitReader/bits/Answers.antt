use Rattle.std.proofs.Common.{arith, rules}
use Rattle.fields.specs.Fields.{bit_of, field_of}
use Rattle.fields.specs.Fields.Laws.{field_below, field_more}
use Rattle.fields.proofs.BitReader.bits.Goals as goal

pub loop-i-init : goal.loop-i-init
unfolding field_of
loop-i-init c = search rules

pub overflow_mul-value : goal.overflow_mul-value
overflow_mul-value c =
    let r = c.args.self.now in
    omega (arith, field_below 12 r.bytes.now r.at {w = c.loop-i.i} (omega arith))

pub overflow_add-value : goal.overflow_add-value
overflow_add-value c =
    let r = c.args.self.now in
    omega (arith, field_below 12 r.bytes.now r.at {w = c.loop-i.i} (omega arith))

pub loop-i-preserved : goal.loop-i-preserved
unfolding bit_of
loop-i-preserved c = rw (field_more, ← c.loop-i.invariant)
