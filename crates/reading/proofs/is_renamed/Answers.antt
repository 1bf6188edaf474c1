-- `is_renamed`: the invariant is that the bytes to come are in order where all are. Assumes nothing.
-- Read first: specs/Answers (ordered, IsRenamed), proofs/Ordered (Walked).
use native.Mathlib.Omega.{arith}
use Rattle.reading.proofs.Ordered.{walk_start, walk_wrong, walk_more, walk_end}
use Rattle.reading.proofs.is_renamed.Goals as goal

pub loop-byte-init : goal.loop-byte-init
loop-byte-init c = walk_start _

pub returns-then-b-next : goal.returns-then-b-next
returns-then-b-next c = walk_wrong _ _ _ c.requires.0 _ _ c.loop-byte.invariant c.loop-byte-test.true _ c.from-b.ensures c.if-b-next.true

pub next_after-next-requires : goal.next_after-next-requires
next_after-next-requires c = c.loop-byte.invariant.small

pub loop-byte-preserved : goal.loop-byte-preserved
loop-byte-preserved c =
    walk_more _ _ _ c.loop-byte.invariant c.loop-byte-test.true _ c.from-b.ensures
    (omega arith) c.if-b-next.false _ c.next_after-next.ensures

pub returns : goal.returns
returns c = walk_end _ _ _ c.requires.0 _ _ c.loop-byte.invariant c.loop-byte-test.false
