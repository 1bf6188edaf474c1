-- `number`: the two bytes are those of the slot. Assumes nothing.
-- Read first: `number` in src/lib.rt, proofs/Reading.
use mathlib.Core.Path.{◌∙◌}
use Rattle.slots.proofs.Reading.{number_read}
use Rattle.slots.proofs.number.Goals as goal

pub returns : goal.returns
returns c = c.bytes_at.ensures ∙ number_read c.args.slots.now c.args.k
