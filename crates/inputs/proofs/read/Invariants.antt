-- `read`: the invariant is that the first k equations are in their slots and the rest is laid out from i on. Assumes nothing.
-- Read first: specs/Inputs (InputsRead), proofs/Fields (SoFar).
use Rattle.inputs.proofs.Fields.{SoFar}
use Rattle.limits.specs.Limits.{most_pairs}
use Rattle.slots.specs.Slots.{slot_width}
use mathlib.Core.Path.{◌≡◌}
use lib.ListN.{length}
use Prim.Native.Nat.{◌*◌, ◌-◌, ◌≤◌}
use Rattle.inputs.proofs.read.Given as goal

abbrev pub invariant-loop-k : goal.invariant-loop-k
invariant-loop-k l = (l.k ≤ l.count) × (length l.slots ≡ most_pairs * slot_width) × SoFar l.table l.source l.at l.count l.slots l.k l.i
