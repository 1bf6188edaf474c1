-- `with_bytes`: the invariant is that the set holds what was there and the variables of the bytes so far. Assumes nothing.
-- Read first: specs/Seen (Seen), proofs/Seeing.
use Rattle.orient.specs.Seen.{Seen}
use lib.ListN.{take}
use Rattle.orient.proofs.with_bytes.Given as goal

abbrev pub invariant-loop-b : goal.invariant-loop-b
invariant-loop-b l = Seen (take l.b-index l.t) l.fn.seen l.seen
