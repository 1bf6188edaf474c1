-- `is_renamed`: the invariant is that the bytes to come are in order where all are. Assumes nothing.
-- Read first: specs/Answers (ordered, IsRenamed), proofs/Ordered (Walked).
use Rattle.reading.proofs.Ordered.{Walked}
use Rattle.reading.proofs.is_renamed.Given as goal

abbrev pub invariant-loop-byte : goal.invariant-loop-byte
invariant-loop-byte l = Walked l.byte-items l.next l.byte-index
