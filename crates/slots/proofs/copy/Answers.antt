-- `copy`: the bytes are those of the slot. Assumes nothing.
-- Read first: `copy` in src/lib.rt, proofs/Reading.
use Rattle.slots.proofs.Reading.{copied}
use Rattle.slots.proofs.copy.Goals as goal

pub returns : goal.returns
returns c = copied _ _ _ c.requires c.bytes_at.ensures
