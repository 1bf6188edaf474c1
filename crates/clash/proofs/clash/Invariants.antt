-- `clash`: two terms in step; the invariant is that substitutions that make the terms equal make those still to do equal. Assumes nothing.
-- Read first: specs/Clashing (Clashing), proofs/Facing.
use Rattle.clash.proofs.Facing.{Going}
use Prim.Native.Nat.{◌-◌}
use lib.ListN.{length}
use Rattle.clash.proofs.clash.Given as goal

abbrev pub invariant-loop-i : goal.invariant-loop-i
invariant-loop-i l = Going l.table l.s l.t l.position l.i l.j

abbrev pub decreases-loop-i : goal.decreases-loop-i
decreases-loop-i l = length l.s - l.i
