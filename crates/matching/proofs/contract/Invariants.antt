-- `contract`: the invariant is that what is in the buffer and the pieces of the bytes to come are all pieces. Assumes nothing.
-- Read first: specs/Pieces (pieces, Put), proofs/Filling (PutSoFar).
use Rattle.matching.proofs.Filling.{PutSoFar}
use Rattle.matching.proofs.contract.Given as goal

abbrev pub invariant-loop-b : goal.invariant-loop-b
invariant-loop-b l = PutSoFar l.t l.binds l.right l.initial.out l.out l.most l.b-index l.w
