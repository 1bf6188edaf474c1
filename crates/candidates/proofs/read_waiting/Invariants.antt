-- `read_waiting`: the invariant is that the equations before i are read and stand behind the live rules; the bytes to come fall. Assumes nothing.
-- Read first: specs/Candidates (IsWaitings), proofs/Waiting (WaitingSoFar).
use lib.ListN.{length}
use Prim.Native.Nat.{◌-◌}
use Rattle.candidates.proofs.Waiting.{WaitingSoFar}
use Rattle.candidates.proofs.read_waiting.Given as goal

abbrev pub invariant-loop-i : goal.invariant-loop-i
invariant-loop-i l = WaitingSoFar l.table l.saved l.at l.live l.initial.slots l.slots l.k l.i

abbrev pub decreases-loop-i : goal.decreases-loop-i
decreases-loop-i l = length l.saved - l.i
