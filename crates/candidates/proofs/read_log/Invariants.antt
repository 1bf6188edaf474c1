-- `read_log`: the invariant is that the entries before i are read and stand in the log; the bytes to come fall. Assumes nothing.
-- Read first: specs/Candidates (IsLog), proofs/Logged (LogSoFar).
use lib.ListN.{length}
use Prim.Native.Nat.{◌-◌}
use Rattle.candidates.proofs.Logged.{LogSoFar}
use Rattle.candidates.proofs.read_log.Given as goal

abbrev pub invariant-loop-i : goal.invariant-loop-i
invariant-loop-i l = LogSoFar l.saved l.at l.log l.count l.i

abbrev pub decreases-loop-i : goal.decreases-loop-i
decreases-loop-i l = length l.saved - l.i
