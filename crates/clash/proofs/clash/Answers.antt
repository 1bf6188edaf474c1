-- `clash`: two terms in step; the invariant is that substitutions that make the terms equal make those still to do equal. Assumes nothing.
-- Read first: specs/Clashing (Clashing), proofs/Facing.
use Rattle.clash.proofs.Facing.{going_start, going_next, going_clash, no_clash}
use native.Mathlib.Omega.{arith}
use Rattle.clash.proofs.clash.Goals as goal

pub loop-i-init : goal.loop-i-init
loop-i-init c = going_start _ _ _ _

pub returns-then-differ : goal.returns-then-differ
returns-then-differ c =
    going_clash _ _ _ _ _ _ c.differ.result c.loop-i.invariant c.loop-i-test.true
    c.if-j-t.true c.differ.ensures c.if-differ.true

pub loop-i-smaller : goal.loop-i-smaller
loop-i-smaller c = omega (arith, c.past-i.ensures.on, c.loop-i-test.true)

pub loop-i-preserved : goal.loop-i-preserved
loop-i-preserved c =
    going_next _ _ _ _ _ _ _ _ c.loop-i.invariant c.loop-i-test.true c.if-j-t.true
    c.past-i.ensures c.past-j.ensures

pub returns-after-loop-i : goal.returns-after-loop-i
returns-after-loop-i c = no_clash _ _ _ _
