-- `number_field`: a head, and the number behind it. Assumes nothing.
-- Read first: specs/Adds, proofs/Writing.
use Rattle.std.proofs.Common.{arith}
use Rattle.fields.proofs.Writing.{writes_room, writes_field}
use Rattle.fields.proofs.writer.Writer.number_field.Goals as goal

pub number-requires : goal.number-requires
number-requires c = writes_room (omega (arith, c.requires.0)) c.head.ensures _ (omega (arith, c.requires.0))

pub returns : goal.returns
returns c = writes_field (omega (arith, c.requires.0)) c.head.ensures c.number.ensures
