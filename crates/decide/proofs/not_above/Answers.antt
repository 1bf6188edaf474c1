-- `not_above`: the invariant is that the rules before slot k are passed. Assumes nothing.
-- Read first: specs/Asking (FirstNotAbove), proofs/Downward.
use native.Mathlib.Omega.{arith}
use Rattle.slots.proofs.Layouts.{layout_less}
use Rattle.decide.proofs.Downward.{passed_none, one_passed, not_above, ends_not, ends_all}
use Rattle.std.proofs.Common.{rules}
use Rattle.decide.proofs.not_above.Goals as goal

pub loop-k-init : goal.loop-k-init
loop-k-init c = (search rules, passed_none _ _ _)

pub left-left-requires : goal.left-left-requires
left-left-requires c = layout_less (let a = c.loop-k-test.true in omega arith) c.args.system.laid_out

pub right-right-requires : goal.right-right-requires
right-right-requires c = layout_less (let a = c.loop-k-test.true in omega arith) c.args.system.laid_out

pub above-requires : goal.above-requires
above-requires c =
    record { left = omega (arith, c.left-left.ensures.result_len_bound); right = omega (arith, c.right-right.ensures.result_len_bound) }

pub loop-k-preserved : goal.loop-k-preserved
loop-k-preserved c = (
  omega (arith, c.loop-k.invariant.0, c.left-left.ensures.result_len_bound, c.right-right.ensures.result_len_bound),
  one_passed _ _ _ c.requires.table _ _ c.loop-k-test.true _ _ c.left-left.ensures.result_value c.right-right.ensures.result_value _
      c.above.ensures c.if-not-above.false c.loop-k.invariant.1,
)

pub returns-then-not-above : goal.returns-then-not-above
returns-then-not-above c =
    ends_not _ _ _ _ _ c.loop-k.invariant.1
    (not_above _ _ _ c.requires.table _ _ c.loop-k-test.true _ _ c.left-left.ensures.result_value c.right-right.ensures.result_value _
    c.above.ensures c.if-not-above.true)

pub returns : goal.returns
returns c = ends_all _ _ _ _ _ c.loop-k.invariant.1 c.loop-k-test.false
