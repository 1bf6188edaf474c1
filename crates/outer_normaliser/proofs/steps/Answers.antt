-- `steps`: the invariant is that the definition goes on from the term in the cells. Assumes nothing.
-- Read first: specs/Outer (ReachedOuter), proofs/Reaching (Going).
use native.Mathlib.Omega.{arith}
use mathlib.Core.Path.{sym, ◌∙◌}
use Rattle.outer_normaliser.proofs.Returning.{sized_back}
use Rattle.outer_normaliser.proofs.Reaching.{going_start, going_more, going_ends}
use Rattle.outer_normaliser.proofs.steps.Goals as goal

pub loop-r-init : goal.loop-r-init
loop-r-init c =
    let p = c.requires.len_le_most_nodes in
    let s = sized_back c.args.t.now c.args.len _ (omega arith) c.size_cells.ensures in
    (s.0 ∙ p.1, p.0, omega arith, going_start _ _ _ _ _ _)

pub shape_of-t-in_default : goal.shape_of-t-in_default
shape_of-t-in_default c = c.step-r.ensures.same ∙ c.loop-r.invariant.0 ∙ sym c.requires.len_le_most_nodes.1

pub returns-in_default : goal.returns-in_default
returns-in_default c =
    let p = c.requires.len_le_most_nodes in
    going_ends c.args.t.now c.args.len _ (omega arith) c.size_cells.ensures c.loop-r.invariant.3 c.step-r.ensures
    c.in_default.not-Rewritten (c.loop-r.invariant.0 ∙ sym p.1) c.loop-r.invariant.2

pub loop-r-smaller : goal.loop-r-smaller
loop-r-smaller c =
    let q = c.step-r.ensures.paid c.in-Rewritten.is in
    omega arith

pub loop-r-preserved : goal.loop-r-preserved
loop-r-preserved c =
    let q = c.step-r.ensures.left_over in
    let v = c.loop-r.invariant.2 in (
      c.step-r.ensures.same ∙ c.loop-r.invariant.0,
      c.step-r.ensures.small,
      omega arith,
      going_more c.loop-r.invariant.3 c.step-r.ensures c.in-Rewritten.is,
    )
