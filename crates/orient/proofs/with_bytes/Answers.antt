-- `with_bytes`: the invariant is that the set holds what was there and the variables of the bytes so far. Assumes nothing.
-- Read first: specs/Seen (Seen), proofs/Seeing.
use Rattle.orient.proofs.Seeing.{see_none, see_more, see_all}
use Rattle.std.proofs.Common.{rules}
use Rattle.orient.proofs.with_bytes.Goals as goal

pub loop-b-init : goal.loop-b-init
loop-b-init c = see_none _ (search rules)

pub loop-b-preserved : goal.loop-b-preserved
loop-b-preserved c = see_more _ _ _ _ _ c.loop-b-test.true c.loop-b.invariant c.with_byte-seen.ensures

pub returns : goal.returns
returns c = see_all _ _ _ _ c.loop-b-test.false c.loop-b.invariant
