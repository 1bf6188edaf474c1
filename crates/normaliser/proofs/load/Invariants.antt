-- `load`: the invariant is that the first i bytes are in the cells. Assumes nothing.
-- Read first: proofs/Loading.
use Rattle.normaliser.proofs.Loading.{Loaded}
use Rattle.normaliser.proofs.load.Given as goal

abbrev pub invariant-loop-i : goal.invariant-loop-i
invariant-loop-i l = Loaded l.initial.cells l.t l.cells l.i
