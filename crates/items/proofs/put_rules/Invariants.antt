-- `put_rules`: the invariant is that the fields of the slots from i on, behind what was put, give the whole list. Assumes nothing.
-- Read first: specs/Written (slot_field), fields/specs/Adds (AddsSome), proofs/Writing (Listing).
use Rattle.limits.specs.Limits.{rule_width}
use Rattle.items.specs.Written.{slot_field}
use Rattle.items.proofs.Writing.{Listing}
use Rattle.items.proofs.put_rules.Given as goal

abbrev pub invariant-loop-i : goal.invariant-loop-i
invariant-loop-i l = Listing (slot_field l.rules) rule_width l.initial.w l.count l.w l.i
