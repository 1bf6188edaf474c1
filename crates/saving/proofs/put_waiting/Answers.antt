-- `put_waiting`: the invariant is that the fields of the pairs from the i-th on, behind what was put, give the whole list. Assumes nothing.
-- Read first: specs/Saves (waiting_slot), fields/specs/Adds (AddsSome), items/proofs/Writing (Listing), proofs/Putting.
use Rattle.items.proofs.Writing.{listing_more, listing_end}
use Rattle.saving.proofs.Putting.{puts_waiting}
use Rattle.saving.proofs.put_waiting.Goals as goal

pub loop-i-preserved : goal.loop-i-preserved
loop-i-preserved c = listing_more _ _ c.requires.count_in_bounds c.loop-i.invariant c.loop-i-test.true c.put_candidate.ensures

pub returns : goal.returns
returns c = puts_waiting _ _ _ (listing_end _ _ c.requires.count_in_bounds c.loop-i.invariant c.loop-i-test.false)
