-- `lay`: the invariant is that the first i bytes, moved, stand behind the first w. Assumes nothing.
-- Read first: specs/Layout (Lays), proofs/Moving (Laying).
use Rattle.overlap_terms.proofs.Moving.{Laying}
use Rattle.overlap_terms.proofs.lay.Given as goal

abbrev pub invariant-loop-i : goal.invariant-loop-i
invariant-loop-i l = Laying l.initial.nodes l.w l.t l.up l.nodes l.i
