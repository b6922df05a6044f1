-- `BitReader::bits` meets its contract. The loop's invariant: the value is the field of the bits that have been passed. Assumes nothing.
use Rattle.std.proofs.Common.{◌≡◌}
use Rattle.fields.specs.Fields.{field_of}
use Rattle.fields.proofs.BitReader.bits.Given as goal

abbrev pub invariant-loop-i : goal.invariant-loop-i
invariant-loop-i l = l.value ≡ field_of l.self.bytes.now l.self.at l.i
