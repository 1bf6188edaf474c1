-- `open_path`: the invariant is that the way to the node is opened up to i. Assumes nothing.
-- Read first: specs/Outer (PathOpened), proofs/Opening (Opening).
use Prim.Native.Nat.{◌≤◌, ◌-◌}
use Rattle.outer_normaliser.proofs.Opening.{Opening}
use Rattle.outer_normaliser.proofs.open_path.Given as goal

abbrev pub invariant-loop-i : goal.invariant-loop-i
invariant-loop-i l = (l.i ≤ l.at) × Opening l.initial.t l.at l.t l.i

abbrev pub decreases-loop-i : goal.decreases-loop-i
decreases-loop-i l = l.at - l.i
