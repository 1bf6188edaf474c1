-- `fill_ends`: from the last node to the first; the invariant is that the nodes from i on have their ends. Assumes nothing.
-- Read first: specs/Result (EndAt, EndsFrom), proofs/Ending (EndsSoFar).
use Rattle.mgu.proofs.Ending.{EndsSoFar}
use Rattle.mgu.proofs.start.fill_ends.Given as goal

abbrev pub invariant-loop-i : goal.invariant-loop-i
invariant-loop-i l = EndsSoFar l.nodes l.table l.initial.ends l.ends l.i
