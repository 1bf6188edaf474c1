-- `lay`: the invariant is that the first i bytes, moved, stand behind the first w. Assumes nothing.
-- Read first: specs/Layout (Lays), proofs/Moving (Laying).
use native.Mathlib.Omega.{arith}
use Rattle.overlap_terms.proofs.Moving.{laying_start, laying_more, laying_end}
use Rattle.overlap_terms.proofs.lay.Goals as goal

pub loop-i-init : goal.loop-i-init
loop-i-init c = laying_start _ _ _ _

pub bounds-nodes-w : goal.bounds-nodes-w
bounds-nodes-w c = omega (arith, c.loop-i-test.true, c.loop-i.invariant.same, c.requires.0)

pub loop-i-preserved : goal.loop-i-preserved
loop-i-preserved c = laying_more _ _ _ _ _ _ c.loop-i.invariant _ c.loop-i-test.true c.requires.0 c.moved.ensures

pub shape_of-nodes : goal.shape_of-nodes
shape_of-nodes c = c.loop-i.invariant.same

pub returns : goal.returns
returns c = laying_end _ _ _ _ _ _ c.loop-i.invariant c.loop-i-test.false
