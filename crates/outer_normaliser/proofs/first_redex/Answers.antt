-- `first_redex`: the invariant is that no rule matches a node before i. Assumes nothing.
-- Read first: specs/Outer (FirstRedex), proofs/Looking (Looked).
use Rattle.outer_normaliser.proofs.Looking.{look_start, look_skip, look_more, look_found, look_end}
use Rattle.outer_normaliser.proofs.first_redex.Goals as goal

pub loop-i-init : goal.loop-i-init
loop-i-init c = look_start _ _ _ _

pub loop-i-preserved-in-Some : goal.loop-i-preserved-in-Some
loop-i-preserved-in-Some c = look_skip c.loop-i.invariant c.loop-i-test.true c.in-Some.ensures

pub returns-in-Some-find : goal.returns-in-Some-find
returns-in-Some-find c = look_found c.loop-i.invariant c.loop-i-test.true c.in-Some-find.ensures c.loop-i.auto.binds

pub loop-i-preserved : goal.loop-i-preserved
loop-i-preserved c = look_more c.loop-i.invariant c.loop-i-test.true c.in_default-find.ensures

pub returns : goal.returns
returns c = look_end c.loop-i.invariant c.loop-i-test.false c.loop-i.auto.binds
