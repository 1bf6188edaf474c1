-- `list`: the nodes before q are put; the invariant is that putting the others gives what is to be left. Assumes nothing.
-- Read first: specs/Written (hops), proofs/Writing (Listing).
use Rattle.mgu.proofs.Writing.{Listing}
use Rattle.mgu.proofs.list.Given as goal

abbrev pub invariant-loop-j : goal.invariant-loop-j
invariant-loop-j l = Listing l.ends l.initial.owed l.p l.k l.w l.owed l.q l.j
