-- `put_hexes`: the invariant is that the digits of the bytes to come, put at a, give the whole. Assumes nothing.
-- Read first: completion/specs/Settle (hex-byte), proofs/Hex (Hexing).
use Rattle.settle_text.proofs.Hex.{Hexing}
use Rattle.settle_text.proofs.put_hexes.Given as goal

abbrev pub invariant-loop-b : goal.invariant-loop-b
invariant-loop-b l = Hexing l.from l.initial.out l.at l.out l.b-index l.a
