-- `sift`: the invariant is that i of the older rules stay and those that went stand behind all that waited; stay - i falls. Assumes nothing.
-- Read first: specs/Sifting, proofs/Siftings (SiftedTo).
use native.Mathlib.Omega.{arith}
use Prim.Native.Nat.{◌-◌}
use Rattle.collapse.proofs.Siftings.{sifting_start, sifting_goes, sifting_stays, sifting_end}
use Rattle.collapse.proofs.sift.Goals as goal

pub loop-i-init : goal.loop-i-init
loop-i-init c = sifting_start _ _ _ _ _ c.requires.0 c.requires.1

pub sift_one-requires : goal.sift_one-requires
sift_one-requires c =
    let t = c.loop-i-test.true in
    let f = c.loop-i.invariant.fewer in
    let w = c.requires.2 in
    (c.loop-i.invariant.layout, omega arith, c.requires.3)

pub loop-i-preserved-then-sift_one : goal.loop-i-preserved-then-sift_one
loop-i-preserved-then-sift_one c =
    sifting_goes _ _ _ _ _ _ _ _ c.loop-i.invariant _ _ c.loop-i-test.true c.sift_one.ensures c.if-sift_one.true c.requires.2

pub loop-i-preserved : goal.loop-i-preserved
loop-i-preserved c = sifting_stays _ _ _ _ _ _ _ _ c.loop-i.invariant _ _ c.loop-i-test.true c.sift_one.ensures c.if-sift_one.false

pub returns : goal.returns
returns c = sifting_end _ _ _ _ _ _ _ _ c.loop-i.invariant c.loop-i-test.false
