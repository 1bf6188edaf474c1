-- `sift`: the invariant is that i of the older rules stay and those that went stand behind all that waited; stay - i falls. Assumes nothing.
-- Read first: specs/Sifting, proofs/Siftings (SiftedTo).
use Prim.Native.Nat.{◌-◌}
use Rattle.collapse.proofs.Siftings.{SiftedTo}
use Rattle.collapse.proofs.sift.Given as goal

abbrev pub invariant-loop-i : goal.invariant-loop-i
invariant-loop-i l = SiftedTo l.table l.new l.initial.pairs l.live l.count l.pairs l.stay l.i

abbrev pub decreases-loop-i : goal.decreases-loop-i
decreases-loop-i l = l.stay - l.i
