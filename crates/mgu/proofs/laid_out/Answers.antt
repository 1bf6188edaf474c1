-- `laid_out`: the invariant is that the bytes from i on are those of `have` terms. Assumes nothing.
-- Read first: specs/Result (IsTerms), proofs/Laying (Forest).
use native.Mathlib.Omega.{arith}
use Rattle.mgu.proofs.Laying.{forest_start, forest_more, forest_bad, forest_done}
use Rattle.mgu.proofs.laid_out.Goals as goal

pub loop-i-init : goal.loop-i-init
loop-i-init c = forest_start _ _

pub bounds-nodes-i : goal.bounds-nodes-i
bounds-nodes-i c = omega (arith, c.loop-i-test.true, c.loop-i.invariant.within)

pub formed-requires : goal.formed-requires
formed-requires c = omega (arith, c.loop-i.invariant.within, c.requires)

pub returns-in_default : goal.returns-in_default
returns-in_default c = forest_bad _ _ _ _ c.loop-i.invariant c.loop-i-test.true c.in_default.ensures

pub loop-i-preserved : goal.loop-i-preserved
loop-i-preserved c = forest_more _ _ _ _ c.loop-i.invariant c.loop-i-test.true _ c.in-Some.ensures

pub returns : goal.returns
returns c = forest_done _ _ _ _ c.loop-i.invariant c.loop-i-test.false
