-- `left_size`: the byte is that of the slot. Assumes nothing.
-- Read first: `left_size` in src/lib.rt, proofs/Reading.
use mathlib.Core.Path.{◌∙◌, sym}
use Rattle.slots.proofs.Reading.{left_length_at}
use Rattle.slots.proofs.left_size.Goals as goal

pub returns : goal.returns
returns c = c.from.ensures ∙ sym (left_length_at c.args.slots.now c.args.k)
