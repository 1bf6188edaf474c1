-- `apart`: the invariant is that the arguments left agree, or are joined, as all of them are. Assumes nothing.
-- Read first: specs/Steps (Apart), proofs/Walks (Walk).
use Rattle.classes.specs.Read.{arena_of, root_of}
use Rattle.classes.proofs.Walks.{Walk}
use Rattle.classes.proofs.apart.Given as goal

abbrev pub invariant-loop-left : goal.invariant-loop-left
invariant-loop-left l = Walk (arena_of l.arena) (root_of l.arena) l.a l.b l.k l.p l.q l.left
