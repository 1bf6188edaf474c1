-- `total`: the invariant is that the sum is one more than the sizes of the arguments passed, all known. Assumes nothing.
-- Read first: specs/Sizes (Total), proofs/Sizing (Adding).
use Rattle.classes.specs.Steps.{at}
use Rattle.classes.specs.Read.{arena_of, root_of}
use Rattle.sizing.proofs.Sizing.{Adding}
use Rattle.sizing.proofs.total.Given as goal

abbrev pub invariant-loop-left : goal.invariant-loop-left
invariant-loop-left l = Adding (arena_of l.arena) (root_of l.arena) (at l.sizes) l.a l.k l.p l.left l.sum
