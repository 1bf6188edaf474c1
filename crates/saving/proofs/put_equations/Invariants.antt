-- `put_equations`: the invariant is that the first k fields are put and those of the others stand from i on (`SoFar`). Assumes nothing.
-- Read first: specs/Saves (FillFields, PutsEquations), proofs/Equations.
use Rattle.saving.proofs.Equations.{SoFar}
use Rattle.saving.proofs.put_equations.Given as goal

abbrev pub invariant-loop-k : goal.invariant-loop-k
invariant-loop-k l = SoFar l.source l.from l.count l.initial.w l.w l.k l.i
