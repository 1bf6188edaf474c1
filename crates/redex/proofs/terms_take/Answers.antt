-- `terms_take`: the invariant is that the terms to come are left behind so many cells. Assumes nothing.
-- Read first: specs/Contraction (TermsTake), proofs/Sizing (Taking).
use native.Mathlib.Omega.{arith}
use Rattle.redex.proofs.Sizing.{take_start, take_more, take_cut, take_all}
use Rattle.redex.proofs.terms_take.Goals as goal

pub loop-init : goal.loop-init
loop-init c = (omega arith, take_start _ _)

pub returns-then-e-t : goal.returns-then-e-t
returns-then-e-t c = let k = c.loop-test.true in take_cut c.loop.invariant.1 (λ z. omega arith) c.if-e-t.true

pub loop-preserved : goal.loop-preserved
loop-preserved c =
    let k = c.loop-test.true in
    let o = c.if-e-t.false in
    let s = c.size_of-e.ensures.1 in
    (omega arith, take_more c.loop.invariant.1 _ (omega arith) _ c.size_of-e.ensures.0)

pub returns : goal.returns
returns c = let k = c.loop-test.false in take_all c.loop.invariant.1 (omega arith) _ c.min.ensures
