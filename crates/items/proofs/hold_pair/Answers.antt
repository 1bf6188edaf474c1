-- `hold_pair`: the mark, then the sides, by `pair_held`. Assumes nothing.
-- Read first: specs/Readers (HoldsPair), proofs/Slotted.
use Rattle.items.proofs.Slotted.{pair_held}
use Rattle.items.proofs.hold_pair.Goals as goal

pub returns : goal.returns
returns c = pair_held c.put_mark.ensures c.put_sides.ensures
