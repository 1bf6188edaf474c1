-- `open_path`: the invariant is that the way to the node is opened up to i. Assumes nothing.
-- Read first: specs/Outer (PathOpened), proofs/Opening (Opening).
use native.Mathlib.Omega.{arith}
use Rattle.outer_normaliser.proofs.Opening.{open_start, open_skip, open_node, open_done}
use Rattle.outer_normaliser.proofs.open_path.Goals as goal

pub loop-i-init : goal.loop-i-init
loop-i-init c = (omega arith, open_start _ _)

pub loop-i-preserved-in-Some : goal.loop-i-preserved-in-Some
loop-i-preserved-in-Some c =
    let o = open_skip c.loop-i.invariant.1 c.loop-i-test.true c.requires.0 c.in-Some.ensures in
    (o.within, o)

pub loop-i-preserved : goal.loop-i-preserved
loop-i-preserved c =
    let o = open_node c.loop-i.invariant.1 c.loop-i-test.true c.requires.0 c.sized.ensures c.in_default.ensures in
    (o.within, o)

pub returns : goal.returns
returns c = open_done c.loop-i.invariant.1 c.loop-i-test.false
