-- `put_byte`: a byte that is set is a byte that is put, by `puts_byte`. Assumes nothing.
-- Read first: fields/specs/Puts, proofs/Hex.
use Rattle.fields.proofs.Putting.{puts_byte}
use Rattle.settle_text.proofs.put_byte.Goals as goal

pub returns : goal.returns
returns c = puts_byte _ _ _ c.requires
