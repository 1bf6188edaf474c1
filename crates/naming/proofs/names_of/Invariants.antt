-- `names_of`: the invariant is that the names so far, with those of the bytes to come, are all of them. Assumes nothing.
-- Read first: specs/Names (collect), proofs/Finding (Collected).
use Rattle.naming.proofs.Finding.{Collected}
use Rattle.naming.proofs.names_of.Given as goal

abbrev pub invariant-loop-b : goal.invariant-loop-b
invariant-loop-b l = Collected l.bytes l.initial.names l.names l.b-index l.n
