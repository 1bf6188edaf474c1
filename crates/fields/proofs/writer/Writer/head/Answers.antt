-- `head`: one byte, then a number of two bytes. Assumes nothing.
-- Read first: specs/Adds, proofs/Writing.
use Rattle.std.proofs.Common.{arith}
use Rattle.fields.proofs.Writing.{writes_room, writes_then}
use Rattle.fields.proofs.writer.Writer.head.Goals as goal

pub number-requires : goal.number-requires
number-requires c = writes_room (omega (arith, c.requires.0)) c.byte.ensures 2 c.requires.0

pub returns : goal.returns
returns c = writes_then (omega (arith, c.requires.0)) c.byte.ensures c.number.ensures
