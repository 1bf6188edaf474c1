-- `contract`: `replace` of `matching`, with the right side that is in the slot. Assumes nothing.
-- Read first: matching/specs/Pieces (Put, replaced), slots/specs/Slots (right-of).
use Rattle.redex.proofs.contract.Goals as goal

pub returns : goal.returns
returns c = rw c.right.ensures.result_value at c.replace.ensures
