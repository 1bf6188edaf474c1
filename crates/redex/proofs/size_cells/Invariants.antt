-- `size_cells`: the invariant is that of the open places only the first k are left without their sizes. Assumes nothing.
-- Read first: specs/Contraction (CellsSized), proofs/Sizing (SizedBelow).
use mathlib.Core.Path.{◌≡◌}
use lib.ListN.{length}
use Rattle.redex.proofs.Sizing.{SizedBelow}
use Rattle.redex.proofs.size_cells.Given as goal

abbrev pub invariant-loop-k : goal.invariant-loop-k
invariant-loop-k l = (length l.t ≡ length l.initial.t) × SizedBelow l.table l.initial.t l.places l.t l.k
