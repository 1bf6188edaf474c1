-- `insert`: the slots from k on take the places behind them, and the slot is put at k. Assumes nothing.
-- Read first: `insert` in src/lib.rt, proofs/Shifting.
use Rattle.slots.proofs.Shifting.{inserted}
use Rattle.slots.proofs.insert.Goals as goal

pub returns : goal.returns
returns c =
    let h = c.requires in
    let e = c.copy_within.ensures in inserted _ _ _ _ _ _ h.0 h.1 h.2 e.len e.by_index.0 e.by_index.1 c.paste.ensures
