-- `scan_inputs`: the invariant is that the inputs from k on, with the units left, come to what all come to; number - k falls. Assumes nothing.
-- Read first: specs/Walk (of_inputs), proofs/Going (Going), proofs/Inputs.
use Prim.Native.Nat.{◌-◌}
use Rattle.scanning.proofs.Going.{Going}
use Rattle.scanning.specs.Walk.{InSlots, of_inputs}
use Rattle.scanning.proofs.scan_inputs.Given as goal

abbrev pub invariant-loop-k : goal.invariant-loop-k
invariant-loop-k l =
    Going (InSlots l.system.table.now l.system.rules.now l.system.count l.inputs l.number) (of_inputs 0) l.initial.pair l.pair l.units (of_inputs l.k) l.u

abbrev pub decreases-loop-k : goal.decreases-loop-k
decreases-loop-k l = l.number - l.k
