-- `renumber`: the invariant is that the bytes so far are numbered and the others are as they were. Assumes nothing.
-- Read first: specs/Names (named), proofs/Filling (Mapped).
use Rattle.naming.specs.Names.{named}
use Rattle.naming.proofs.Filling.{Mapped}
use Rattle.naming.proofs.renumber.Given as goal

abbrev pub invariant-loop-b : goal.invariant-loop-b
invariant-loop-b l = Mapped (named l.names) l.initial.bytes l.bytes l.b-index
