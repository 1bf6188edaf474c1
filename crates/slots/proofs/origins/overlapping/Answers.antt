-- `overlapping`: the numbers are those of the marks. Assumes nothing.
-- Read first: `overlapping` in src/origins.rt, proofs/Reading.
use Rattle.slots.proofs.Reading.{overlapping_at}
use Rattle.std.proofs.Common.{rules}
use Rattle.slots.proofs.origins.overlapping.Goals as goal

pub returns : goal.returns
returns c = overlapping_at _ _ _ _ _ _ c.requires.2 (search rules) (search rules) c.number.ensures c.number-2.ensures
