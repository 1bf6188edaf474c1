-- `unload`: the invariant is that the bytes of the first i cells are in t. Assumes nothing.
-- Read first: proofs/Loading.
use Rattle.matching.specs.Cells.{node_bytes}
use Rattle.normaliser.proofs.Loading.{Loaded}
use Rattle.normaliser.proofs.unload.Given as goal

abbrev pub invariant-loop-i : goal.invariant-loop-i
invariant-loop-i l = Loaded l.initial.t (node_bytes l.cells) l.t l.i
