-- `scan_rules`: the invariant is that what is to come from the place reached, with the units left, comes to what all places come to; `ahead` falls.
-- Assumes nothing.
-- Read first: specs/Order (to-come), proofs/Reaching (Reaching, ahead).
use Rattle.scanning.proofs.Reaching.{Reaching, ahead}
use Rattle.scanning.proofs.scan_rules.Given as goal

abbrev pub invariant-loop-at : goal.invariant-loop-at
invariant-loop-at l = Reaching l.system.table.now l.system.rules.now l.system.count l.initial.pair l.pair l.units l.at l.u

abbrev pub decreases-loop-at : goal.decreases-loop-at
decreases-loop-at l = ahead l.at
