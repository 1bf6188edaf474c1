-- `field`: a head, and the contents behind it. Assumes nothing.
-- Read first: specs/Adds, proofs/Writing.
use Rattle.std.proofs.Common.{arith}
use Rattle.fields.proofs.Writing.{writes_room, writes_field}
use Rattle.fields.proofs.writer.Writer.field.Goals as goal

pub bytes-requires : goal.bytes-requires
bytes-requires c = writes_room (omega (arith, c.requires.0)) c.head.ensures _ (omega (arith, c.requires.0))

pub returns : goal.returns
returns c = writes_field (omega (arith, c.requires.0)) c.head.ensures c.bytes.ensures
