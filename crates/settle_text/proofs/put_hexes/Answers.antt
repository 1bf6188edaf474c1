-- `put_hexes`: the invariant is that the digits of the bytes to come, put at a, give the whole. Assumes nothing.
-- Read first: completion/specs/Settle (hex-byte), proofs/Hex (Hexing).
use Rattle.settle_text.proofs.Hex.{hexing_start, hexing_more, hexing_end}
use Rattle.settle_text.proofs.put_hexes.Goals as goal

pub loop-b-init : goal.loop-b-init
loop-b-init c = hexing_start _ _ _

pub loop-b-preserved : goal.loop-b-preserved
loop-b-preserved c = hexing_more _ _ _ c.requires _ _ _ c.loop-b.invariant _ _ c.loop-b-test.true c.put_hex-a.ensures

pub returns : goal.returns
returns c = hexing_end _ _ _ c.requires _ _ _ c.loop-b.invariant c.loop-b-test.false
