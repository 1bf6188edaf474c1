-- `put_log`: the invariant is that the fields of the entries from i on, behind what was put, give the whole list. Assumes nothing.
-- Read first: specs/Written (logged_field), fields/specs/Adds (AddsSome), proofs/Writing (puts_entry, Listing).
use Rattle.limits.specs.Limits.{entry_width}
use Rattle.items.specs.Written.{logged_field}
use Rattle.items.proofs.Writing.{Listing}
use Rattle.items.proofs.put_log.Given as goal

abbrev pub invariant-loop-i : goal.invariant-loop-i
invariant-loop-i l = Listing (logged_field l.log) entry_width l.initial.w l.count l.w l.i
