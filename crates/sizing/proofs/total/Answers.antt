-- `total`: the invariant is that the sum is one more than the sizes of the arguments passed, all known. Assumes nothing.
-- Read first: specs/Sizes (Total), proofs/Sizing (Adding).
use native.Mathlib.Omega.{arith}
use Rattle.classes.proofs.Walks.{some_within}
use Rattle.sizing.proofs.Sizing.{adding_start, adding_turn, adding_lacks, adding_end, sized_at}
use Rattle.sizing.proofs.total.Goals as goal

pub loop-left-init : goal.loop-left-init
loop-left-init c = adding_start _ _ _ _ _ c.requires.spells_some

pub bounds-sizes-p : goal.bounds-sizes-p
bounds-sizes-p c = some_within _ _ _ _ c.loop-left.invariant.ps c.loop-left-test.true c.requires.sized.long

pub returns-then-s-eq0 : goal.returns-then-s-eq0
returns-then-s-eq0 c = adding_lacks _ _ _ _ _ _ _ _ _ c.loop-left.invariant c.loop-left-test.true c.from-s.ensures c.if-s-eq0.true

pub overflow_add-sum : goal.overflow_add-sum
overflow_add-sum c = omega (arith, c.loop-left.invariant.most, c.from-s.ensures)

pub offset_bounds-arena-p : goal.offset_bounds-arena-p
offset_bounds-arena-p c = omega (arith, some_within _ _ _ _ c.loop-left.invariant.ps c.loop-left-test.true c.requires.sized.ready.small)

pub bounds-arena-p : goal.bounds-arena-p
bounds-arena-p c = some_within _ _ _ _ c.loop-left.invariant.ps c.loop-left-test.true c.requires.sized.ready.ended

pub loop-left-preserved : goal.loop-left-preserved
loop-left-preserved c =
    adding_turn _ _ _ _ _ _ _ _ _ _ _ c.loop-left.invariant c.loop-left-test.true c.from-p.ensures
    c.from-s.ensures c.if-s-eq0.false
    (sized_at _ _ _ _ _ c.requires.sized _ _ _ c.loop-left.invariant.ps c.loop-left-test.true
    c.from-s.ensures c.if-s-eq0.false) c.min-sum.ensures

pub returns : goal.returns
returns c = adding_end _ _ _ _ _ _ _ _ c.loop-left.invariant c.loop-left-test.false
