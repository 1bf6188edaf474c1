-- `apart`: the invariant is that the arguments left agree, or are joined, as all of them are. Assumes nothing.
-- Read first: specs/Steps (Apart), proofs/Walks (Walk).
use native.Mathlib.Omega.{arith}
use Rattle.classes.proofs.Walks.{walk_start, walk_turn, walk_end, walk_join, some_within}
use Rattle.classes.proofs.apart.Goals as goal

pub loop-left-init : goal.loop-left-init
loop-left-init c = walk_start _ _ _ _ _ c.requires

pub offset_bounds-arena-p : goal.offset_bounds-arena-p
offset_bounds-arena-p c = omega (arith, some_within _ _ _ _ c.loop-left.invariant.ps c.loop-left-test.true c.args.arena.now.ready.small)

pub bounds-arena-p : goal.bounds-arena-p
bounds-arena-p c = some_within _ _ _ _ c.loop-left.invariant.ps c.loop-left-test.true c.args.arena.now.ready.classed

pub offset_bounds-arena-q : goal.offset_bounds-arena-q
offset_bounds-arena-q c = omega (arith, some_within _ _ _ _ c.loop-left.invariant.qs c.loop-left-test.true c.args.arena.now.ready.small)

pub bounds-arena-q : goal.bounds-arena-q
bounds-arena-q c = some_within _ _ _ _ c.loop-left.invariant.qs c.loop-left-test.true c.args.arena.now.ready.classed

pub returns-then-arena-p : goal.returns-then-arena-p
returns-then-arena-p c = walk_join _ _ _ _ _ _ _ _ c.loop-left.invariant c.loop-left-test.true c.if-arena-p.true

pub offset_bounds-arena-p-in-loop-left : goal.offset_bounds-arena-p-in-loop-left
offset_bounds-arena-p-in-loop-left c = omega (arith, some_within _ _ _ _ c.loop-left.invariant.ps c.loop-left-test.true c.args.arena.now.ready.small)

pub bounds-arena-p-in-loop-left : goal.bounds-arena-p-in-loop-left
bounds-arena-p-in-loop-left c = some_within _ _ _ _ c.loop-left.invariant.ps c.loop-left-test.true c.args.arena.now.ready.ended

pub offset_bounds-arena-q-in-loop-left : goal.offset_bounds-arena-q-in-loop-left
offset_bounds-arena-q-in-loop-left c = omega (arith, some_within _ _ _ _ c.loop-left.invariant.qs c.loop-left-test.true c.args.arena.now.ready.small)

pub bounds-arena-q-in-loop-left : goal.bounds-arena-q-in-loop-left
bounds-arena-q-in-loop-left c = some_within _ _ _ _ c.loop-left.invariant.qs c.loop-left-test.true c.args.arena.now.ready.ended

pub loop-left-preserved : goal.loop-left-preserved
loop-left-preserved c =
    walk_turn _ _ _ _ _ _ _ _ _ _ c.loop-left.invariant c.loop-left-test.true c.if-arena-p.false
    c.from-p.ensures c.from-q.ensures

pub returns : goal.returns
returns c = walk_end _ _ _ _ _ _ _ _ c.loop-left.invariant c.loop-left-test.false
