-- `put_number`: the invariant is that the rest m of the number, put in the `left` bytes still free, gives the whole. Assumes nothing.
-- Read first: specs/Puts, proofs/Numbering (Numbering).
use Rattle.fields.proofs.Numbering.{Numbering}
use Rattle.fields.proofs.put_number.Given as goal

abbrev pub invariant-loop-left : goal.invariant-loop-left
invariant-loop-left l = Numbering l.initial.out l.at l.width l.n l.out l.left l.m
