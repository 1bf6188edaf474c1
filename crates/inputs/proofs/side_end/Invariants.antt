-- `side_end`: the invariant is that the bytes passed are known and at most 120. A lemma for each return. Assumes nothing.
-- Read first: specs/Inputs (SideEnd), proofs/Ending (SideWalk).
use Rattle.inputs.proofs.Ending.{SideWalk}
use Rattle.inputs.proofs.side_end.Given as goal

abbrev pub invariant-loop-i : goal.invariant-loop-i
invariant-loop-i l = SideWalk l.source l.at l.e l.i
