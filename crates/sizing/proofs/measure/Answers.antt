-- `measure`: cleared sizes are right (`clear_sized`), and `fill_sizes` finds the others. Assumes nothing.
-- Read first: specs/Sizes (SizedTo), proofs/Sizing.
use Rattle.sizing.proofs.Sizing.{clear_sized}
use mathlib.Core.Path.{refl}
use native.Mathlib.Omega.{arith}
use Rattle.sizing.proofs.measure.Goals as goal

pub fill_sizes-requires : goal.fill_sizes-requires
fill_sizes-requires c = clear_sized _ _ _ _ _ c.args.arena.now.ready (omega (arith, c.fill.ensures.len))
    (λ i h. c.fill.ensures.clones i 0 (omega (arith, c.fill.ensures.len)) refl)
