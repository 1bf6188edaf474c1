-- `remove`: the bytes behind the slot take the places one slot before them. Assumes nothing.
-- Read first: `remove` in src/lib.rt, proofs/Shifting.
use Rattle.slots.proofs.Shifting.{removed}
use Rattle.slots.proofs.remove.Goals as goal

pub returns : goal.returns
returns c =
    let h = c.requires in
    let e = c.copy_within.ensures in removed _ _ _ _ h.0 h.1 e.len e.by_index.0 e.by_index.1
