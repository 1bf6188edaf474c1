-- `left_root`: the byte is that of the slot. Assumes nothing.
-- Read first: `left_root` in src/lib.rt, proofs/Parts.
use mathlib.Core.Path.{sym}
use native.Mathlib.Omega.{arith}
use Rattle.slots.specs.Slots.{left_at}
use Rattle.slots.proofs.Parts.{slot_byte}
use Rattle.slots.proofs.left_root.Goals as goal

pub returns : goal.returns
returns c = sym (slot_byte c.args.slots.now c.args.k left_at (omega arith))
