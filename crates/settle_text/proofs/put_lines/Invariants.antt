-- `put_lines`: the invariant is that the lines of the fields from i on, put at a, give the whole text; the bytes to come fall. Assumes nothing.
-- Read first: specs/Text (Lines), proofs/Lining (Printing).
use Prim.Native.Nat.{◌-◌}
use lib.ListN.{length}
use Rattle.settle_text.proofs.Lining.{Printing}
use Rattle.settle_text.proofs.put_lines.Given as goal

abbrev pub invariant-loop-field : goal.invariant-loop-field
invariant-loop-field l = Printing l.res l.initial.out l.out l.i l.a

abbrev pub decreases-loop-field : goal.decreases-loop-field
decreases-loop-field l = length l.res - l.i
