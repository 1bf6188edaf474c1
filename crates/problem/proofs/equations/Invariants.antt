-- `equations`: the invariant is that the fields before i are `count` equations; the bytes to come fall. Assumes nothing.
-- Read first: specs/Parser (IsEquations), proofs/Parses (SoFar).
use Rattle.problem.proofs.Parses.{SoFar}
use lib.ListN.{length}
use Prim.Native.Nat.{◌≤◌, ◌-◌}
use Rattle.problem.proofs.equations.Given as goal

abbrev pub invariant-loop-i : goal.invariant-loop-i
invariant-loop-i l = (l.count ≤ 16) × (l.i ≤ length l.problem) × SoFar l.table l.problem l.at l.count l.i

abbrev pub decreases-loop-i : goal.decreases-loop-i
decreases-loop-i l = length l.problem - l.i
