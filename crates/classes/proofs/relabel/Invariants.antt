-- `relabel`: the invariant is that the entries passed are relabelled and the others are as they were. Assumes nothing.
-- Read first: specs/Steps (relabelled), naming/proofs/Filling (Mapped).
use Rattle.classes.specs.Steps.{relabelled}
use Rattle.naming.proofs.Filling.{Mapped}
use Rattle.classes.proofs.relabel.Given as goal

abbrev pub invariant-loop-b : goal.invariant-loop-b
invariant-loop-b l = Mapped (relabelled l.from l.to) l.initial.class l.class l.b-index
