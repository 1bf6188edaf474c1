-- `number`: the invariant is that the bytes read so far are the number n. Assumes nothing.
-- Read first: proofs/Numbers (Counted).
use Rattle.reading.proofs.Numbers.{Counted}
use Rattle.reading.proofs.number.Given as goal

abbrev pub invariant-loop-b : goal.invariant-loop-b
invariant-loop-b l = Counted l.b-items l.n l.b-index
