-- `renumber`: the invariant is that the bytes so far are numbered and the others are as they were. Assumes nothing.
-- Read first: specs/Names (named), proofs/Filling (Mapped).
use Rattle.naming.proofs.Filling.{mapped_start, mapped_more, mapped_end}
use Rattle.naming.proofs.renumber.Goals as goal

pub loop-b-init : goal.loop-b-init
loop-b-init c = mapped_start _ _

pub loop-b-preserved : goal.loop-b-preserved
loop-b-preserved c = mapped_more _ _ _ _ _ c.loop-b.invariant c.loop-b-test.true c.number_byte.ensures

pub returns : goal.returns
returns c = mapped_end _ _ _ _ c.loop-b.invariant c.loop-b-test.false
