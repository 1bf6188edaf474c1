-- `hop`: over k subterms by their ends; the invariant is that those before q are the first ones. Assumes nothing.
-- Read first: specs/Result (EndsFrom), terms/specs/Scan (skip), proofs/Ending.
use Rattle.mgu.proofs.Ending.{hop_more}
use Rattle.terms.proofs.Scans.{skip_done, skip_over}
use native.Mathlib.Omega.{arith}
use mathlib.Core.Path.{refl, sym, ◌∙◌}
use Rattle.mgu.proofs.start.hop.Goals as goal

pub loop-left-init : goal.loop-left-init
loop-left-init c = (omega arith, c.requires.p_in_bounds.0, refl)

pub returns-then-q-nodes : goal.returns-then-q-nodes
returns-then-q-nodes c = (sym (skip_over _ _ _ _ c.if-q-nodes.true) ∙ c.loop-left.invariant.2, c.loop-left.invariant.1)

pub loop-left-preserved : goal.loop-left-preserved
loop-left-preserved c =
    let h = hop_more _ _ _ _ _ _ _ _ c.requires.ends_from c.loop-left.invariant.0 (omega (arith, c.if-q-nodes.false))
    (omega (arith, c.loop-left-test.true)) c.loop-left.invariant.2 c.from-q.ensures in
    (omega (arith, h.0, c.loop-left.invariant.0), h.1, h.2)

pub returns : goal.returns
returns c = (sym (skip_done _ _ _ _ (omega (arith, c.loop-left-test.false))) ∙ c.loop-left.invariant.2, c.loop-left.invariant.1)
