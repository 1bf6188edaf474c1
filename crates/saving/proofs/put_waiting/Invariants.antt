-- `put_waiting`: the invariant is that the fields of the pairs from the i-th on, behind what was put, give the whole list. Assumes nothing.
-- Read first: specs/Saves (waiting_slot), fields/specs/Adds (AddsSome), items/proofs/Writing (Listing), proofs/Putting.
use Rattle.limits.specs.Limits.{waiting_width}
use Rattle.items.proofs.Writing.{Listing}
use Rattle.saving.proofs.Putting.{behind}
use Rattle.saving.proofs.put_waiting.Given as goal

abbrev pub invariant-loop-i : goal.invariant-loop-i
invariant-loop-i l = Listing (behind l.pairs l.live) waiting_width l.initial.w l.count l.w l.i
