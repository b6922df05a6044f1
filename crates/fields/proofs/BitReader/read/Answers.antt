-- `BitReader::read` meets its contract: the test is that the field's last bit is inside the record. Assumes nothing.
use Rattle.std.proofs.Common.{arith}
use Rattle.fields.specs.Fields.Laws.{field_lt, next_ends, next_got}
use Rattle.fields.proofs.BitReader.read.Goals as goal

pub returns-then-self-width-clause-told : goal.returns-then-self-width-clause-told
returns-then-self-width-clause-told c = next_ends _ _ _ (omega arith)

pub returns-clause-told : goal.returns-clause-told
returns-clause-told c =
    let r = c.args.self.now in
    rw (c.bits-value.ensures, c.width-width.ensures) (next_got r.bytes.now _ r.at (omega arith))

pub returns-clause-small : goal.returns-clause-small
returns-clause-small c = rw (c.bits-value.ensures, c.width-width.ensures) (field_lt _ _ _)
