-- `past`: one byte on where the byte is the other side's, else past the subterm (`past_same`, `past_other`). Assumes nothing.
-- Read first: specs/Clashing (Past), proofs/Facing.
use Rattle.clash.proofs.Facing.{past_same, past_other}
use Rattle.clash.proofs.past.Goals as goal

pub returns-then-t-i : goal.returns-then-t-i
returns-then-t-i c = past_same _ _ _ _ c.if-t-i.true

pub returns-else-t-i : goal.returns-else-t-i
returns-else-t-i c = past_other _ _ _ _ _ c.requires.0 c.if-t-i.false c.term_end.ensures.bytes
