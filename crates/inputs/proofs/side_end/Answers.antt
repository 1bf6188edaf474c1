-- `side_end`: the invariant is that the bytes passed are known and at most 120. A lemma for each return. Assumes nothing.
-- Read first: specs/Inputs (SideEnd), proofs/Ending (SideWalk).
use Rattle.inputs.proofs.Ending.{side_start, side_more, side_far, side_bad, side_whole}
use native.Mathlib.Omega.{arith}
use Rattle.inputs.proofs.side_end.Goals.{then-i-at-ge-NODES-via-then-i-at-ge-NODES, then-i-at-ge-NODES-via-else-i-at-ge-NODES+then-source-i-gt-LAST_VARIABLE}
use Rattle.inputs.proofs.side_end.Goals as goal

pub loop-i-init : goal.loop-i-init
loop-i-init c = side_start _ _ _ c.term_end-e.ensures.within.0

pub overflow_sub-i : goal.overflow_sub-i
overflow_sub-i c = c.loop-i.invariant.low

pub returns-then-i-at-ge-NODES : goal.returns-then-i-at-ge-NODES
returns-then-i-at-ge-NODES c =
    let T = c.term_end-e.ensures in
    elim c.then-i-at-ge-NODES.branch [
      | then-i-at-ge-NODES-via-then-i-at-ge-NODES w ↦
          side_far _ _ _ _ T.within.1 T.term _ c.loop-i.invariant c.loop-i-test.true w.if-i-at-ge-NODES.true
      | then-i-at-ge-NODES-via-else-i-at-ge-NODES+then-source-i-gt-LAST_VARIABLE w ↦
          side_bad _ _ _ _ T.within.1 T.term _ c.loop-i.invariant c.loop-i-test.true w.if-source-i-gt-LAST_VARIABLE.true
    ]

pub bounds-source-i : goal.bounds-source-i
bounds-source-i c = let a = c.term_end-e.ensures.within.1 in let b = c.loop-i-test.true in omega arith

pub loop-i-preserved : goal.loop-i-preserved
loop-i-preserved c =
    side_more _ _ _ _ c.loop-i.invariant c.term_end-e.ensures.within.1 c.loop-i-test.true
    c.if-i-at-ge-NODES.false c.if-source-i-gt-LAST_VARIABLE.false

pub returns : goal.returns
returns c =
    side_whole _ _ _ _ c.term_end-e.ensures.within.1 c.term_end-e.ensures.term _
    c.loop-i.invariant c.loop-i-test.false
