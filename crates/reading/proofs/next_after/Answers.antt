-- `next_after`: a lemma for each of its two returns. Assumes nothing.
-- Read first: specs/Answers (next-after), proofs/Ordered.
use Rattle.reading.proofs.Ordered.{after_same, after_other}
use Rattle.reading.proofs.next_after.Goals as goal

pub returns-then-b-next : goal.returns-then-b-next
returns-then-b-next c = after_same _ _ c.if-b-next.true

pub returns-else-b-next : goal.returns-else-b-next
returns-else-b-next c = after_other _ _ c.if-b-next.false
