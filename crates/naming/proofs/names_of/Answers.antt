-- `names_of`: the invariant is that the names so far, with those of the bytes to come, are all of them. Assumes nothing.
-- Read first: specs/Names (collect), proofs/Finding (Collected).
use Rattle.naming.proofs.Finding.{collected_start, collected_more, collected_end}
use Rattle.naming.proofs.names_of.Goals as goal

pub loop-b-init : goal.loop-b-init
loop-b-init c = collected_start _ _

pub loop-b-preserved : goal.loop-b-preserved
loop-b-preserved c =
    let e = c.add_name-n.ensures in
    collected_more _ _ _ _ _ _ _ c.loop-b.invariant c.loop-b-test.true (record { long = e.0; names = e.1; few = e.2 })

pub returns : goal.returns
returns c = collected_end _ _ _ _ _ c.requires c.loop-b.invariant c.loop-b-test.false
