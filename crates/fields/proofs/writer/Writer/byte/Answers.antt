-- `byte`: by `puts_byte`. Assumes nothing.
-- Read first: specs/Adds, proofs/Putting.
use Rattle.std.proofs.Common.{refl}
use Rattle.fields.proofs.Putting.{puts_byte}
use Rattle.fields.proofs.writer.Writer.byte.Goals as goal

pub returns : goal.returns
returns c = record { same = refl; puts = puts_byte _ _ _ c.requires }
