-- `compose`: the invariant is that k right sides are done and the run is that of the others with the units left. Assumes nothing.
-- Read first: specs/Rights (All), proofs/Sweep (SweptTo, Midway).
use Rattle.compose.proofs.Sweep.{SweptTo}
use Rattle.compose.proofs.compose.Given as goal

abbrev pub invariant-loop-k : goal.invariant-loop-k
invariant-loop-k l = SweptTo l.table l.initial.rules l.rules l.count l.units l.k l.left
