-- `list`: the nodes before q are put; the invariant is that putting the others gives what is to be left. Assumes nothing.
-- Read first: specs/Written (hops), proofs/Writing (Listing).
use Rattle.mgu.proofs.Writing.{list_start, list_here, list_more, list_done}
use native.Mathlib.Omega.{arith}
use Rattle.mgu.proofs.list.Goals as goal

pub loop-j-init : goal.loop-j-init
loop-j-init c = list_start _ _ _ _ _ c.requires.1

pub overflow_cast-owed : goal.overflow_cast-owed
overflow_cast-owed c = omega (arith, (list_here c.loop-j.invariant c.loop-j-test.true).1)

pub offset_bounds-ends-q : goal.offset_bounds-ends-q
offset_bounds-ends-q c = omega (arith, (list_here c.loop-j.invariant c.loop-j-test.true).1)

pub bounds-ends-q : goal.bounds-ends-q
bounds-ends-q c = (list_here c.loop-j.invariant c.loop-j-test.true).0

pub loop-j-preserved : goal.loop-j-preserved
loop-j-preserved c = list_more c.loop-j.invariant c.loop-j-test.true _ c.from-q.ensures

pub shape_of-owed : goal.shape_of-owed
shape_of-owed c = c.loop-j.invariant.long

pub returns : goal.returns
returns c = list_done c.loop-j.invariant c.loop-j-test.false
