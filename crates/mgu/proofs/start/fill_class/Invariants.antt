-- `fill_class`: the first i nodes have their first classes, and the table has the first node of each variable met. Assumes nothing.
-- Read first: specs/Result (FirstClass, Firsts), classes/proofs/Filled, proofs/Firsts.
use Rattle.mgu.proofs.Starting.{Classing}
use Rattle.mgu.proofs.start.fill_class.Given as goal

abbrev pub invariant-loop-i : goal.invariant-loop-i
invariant-loop-i l = Classing l.nodes l.initial.class l.class l.firsts l.i
