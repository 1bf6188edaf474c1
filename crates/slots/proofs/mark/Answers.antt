-- `mark`: the six bytes are those of the slot. Assumes nothing.
-- Read first: `mark` in src/lib.rt, proofs/Reading.
use mathlib.Core.Path.{◌∙◌}
use Rattle.slots.proofs.Reading.{mark_read}
use Rattle.slots.proofs.mark.Goals as goal

pub returns : goal.returns
returns c = c.bytes_at.ensures ∙ mark_read c.args.slots.now c.args.k
