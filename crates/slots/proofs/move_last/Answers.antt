-- `move_last`: the slot is copied, removed, and put behind the others. Assumes nothing.
-- Read first: `move_last` in src/lib.rt, proofs/Shifting.
use Rattle.slots.proofs.Shifting.{moved_last}
use Rattle.std.proofs.Common.{rules}
use Rattle.slots.proofs.move_last.Goals as goal

pub returns : goal.returns
returns c =
    let h = c.requires in
    moved_last _ _ _ _ _ _ h.0 h.1 (search rules) c.copy-one.ensures c.remove.ensures c.paste.ensures
