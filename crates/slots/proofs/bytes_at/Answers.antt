-- `bytes_at`: the part of the list fills the array. Assumes nothing.
-- Read first: `bytes_at` in src/lib.rt, fields/proofs/Patching (part_is).
use mathlib.Core.Path.{◌∙◌}
use Rattle.fields.proofs.Patching.{part_is}
use Rattle.slots.proofs.bytes_at.Goals as goal

pub returns : goal.returns
returns g c = c.copy_from_slice.ensures.after ∙ part_is c.args.slots.now c.args.a _
