-- `put_log`: the invariant is that the fields of the entries from i on, behind what was put, give the whole list. Assumes nothing.
-- Read first: specs/Written (logged_field), fields/specs/Adds (AddsSome), proofs/Writing (puts_entry, Listing).
use Rattle.std.proofs.Common.{rules}
use Rattle.items.proofs.Writing.{puts_entry, listing_more, listing_end}
use Rattle.items.proofs.put_log.Goals as goal

pub loop-i-preserved : goal.loop-i-preserved
loop-i-preserved c =
    listing_more _ _ c.requires.count_in_bounds c.loop-i.invariant c.loop-i-test.true (puts_entry _ _ (search rules) c.field.ensures)

pub returns : goal.returns
returns c = listing_end _ _ c.requires.count_in_bounds c.loop-i.invariant c.loop-i-test.false
