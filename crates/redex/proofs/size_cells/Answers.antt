-- `size_cells`: the invariant is that of the open places only the first k are left without their sizes. Assumes nothing.
-- Read first: specs/Contraction (CellsSized), proofs/Sizing (SizedBelow).
use native.Mathlib.Omega.{arith}
use mathlib.Core.Path.{refl, ◌∙◌}
use lib.ListN.{length-set}
use Rattle.redex.proofs.Sizing.{below_start, below_turn, below_done}
use Rattle.redex.proofs.size_cells.Goals as goal

pub loop-k-init : goal.loop-k-init
loop-k-init c = (refl, below_start _ _ c.open_places-count.ensures)

pub loop-k-preserved : goal.loop-k-preserved
loop-k-preserved c =
    let v = c.loop-k.invariant in (
      length-set c.loop-k.t c.from-i.result c.sized.result ∙ v.0,
      below_turn c.open_places-count.ensures v.1 c.loop-k-test.true c.loop-k.auto.k c.from-i.result c.from-i.ensures c.byte_of.ensures
          c.owed_by-n.ensures.0 c.terms_take-e.ensures c.sized.ensures,
    )

pub returns : goal.returns
returns c = let t = c.loop-k-test.false in below_done (omega arith) c.loop-k.invariant.1
