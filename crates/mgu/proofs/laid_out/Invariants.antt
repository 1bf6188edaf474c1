-- `laid_out`: the invariant is that the bytes from i on are those of `have` terms. Assumes nothing.
-- Read first: specs/Result (IsTerms), proofs/Laying (Forest).
use Rattle.mgu.proofs.Laying.{Forest}
use Rattle.mgu.proofs.laid_out.Given as goal

abbrev pub invariant-loop-i : goal.invariant-loop-i
invariant-loop-i l = Forest l.nodes l.table l.i l.have
