-- `put_rules`: the invariant is that the fields of the slots from i on, behind what was put, give the whole list. Assumes nothing.
-- Read first: specs/Written (slot_field), fields/specs/Adds (AddsSome), proofs/Writing (Listing).
use Rattle.items.proofs.Writing.{listing_more, listing_end}
use Rattle.items.proofs.put_rules.Goals as goal

pub loop-i-preserved : goal.loop-i-preserved
loop-i-preserved c = listing_more _ _ c.requires.count_in_bounds c.loop-i.invariant c.loop-i-test.true c.put_rule.ensures

pub returns : goal.returns
returns c = listing_end _ _ c.requires.count_in_bounds c.loop-i.invariant c.loop-i-test.false
