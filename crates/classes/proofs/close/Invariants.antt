-- `close`: passes over the nodes; the classes stay right, and where a pass has joined nothing the nodes before i are closed. Assumes nothing. A join
-- lowers the sum of keys, else the pass goes on: `left_over` falls.
-- Read first: specs/Steps (ClosedTo), proofs/Closing (Closing).
use Rattle.classes.proofs.Closing.{Closing, left_over}
use Rattle.classes.proofs.close.Given as goal

abbrev pub invariant-loop-i : goal.invariant-loop-i
invariant-loop-i l = Closing l.nodes l.table l.ends l.initial.class l.class l.i l.again

abbrev pub decreases-loop-i : goal.decreases-loop-i
decreases-loop-i l = left_over l.nodes l.class l.i l.again
