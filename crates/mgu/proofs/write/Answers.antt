-- `write`: the nodes from `first` on spell what is still owed; the invariant is that with it written, the bytes are what is to be left. Assumes nothing.
-- Read first: specs/Written (RoomFor, WritesTerm), proofs/Writing.
use Rattle.mgu.proofs.Writing.{write_start, write_done, Next, next, Step, step}
use Rattle.classes.specs.Unique.{spells_within}
use native.Mathlib.Omega.{arith}
use lib.ListN.{replicate}
use mathlib.Core.Path.{refl}
use Rattle.std.proofs.Common.{rules}
use Rattle.mgu.proofs.write.Goals as goal

pub overflow_cast-owed : goal.overflow_cast-owed
overflow_cast-owed c = omega (arith, spells_within _ c.requires.1, c.args.arena.now.ready.small)

pub loop-first-init : goal.loop-first-init
loop-first-init c = write_start _ _ _ _ _ _ _ (replicate 120 0) c.args.arena.now.ready c.requires refl

pub bounds-owed-first-in-loop-first : goal.bounds-owed-first-in-loop-first
bounds-owed-first-in-loop-first c = omega (arith, c.loop-first.invariant.room, c.loop-first-test.true)

pub offset_bounds-arena-q : goal.offset_bounds-arena-q
offset_bounds-arena-q c =
    let next-at : Next c.loop-first.invariant c.loop-first-test.true c.from-q.result c.from-q.ensures = next _ _ _ _ in
    omega (arith, next-at.node)

pub bounds-arena-q : goal.bounds-arena-q
bounds-arena-q c =
    let next-at : Next c.loop-first.invariant c.loop-first-test.true c.from-q.result c.from-q.ensures = next _ _ _ _ in
    next-at.class

pub bounds-arena-r : goal.bounds-arena-r
bounds-arena-r c =
    let next-at : Next c.loop-first.invariant c.loop-first-test.true c.from-q.result c.from-q.ensures = next _ _ _ _ in
    let n = next-at in
    omega (arith, n.node, n.root c.from-r.result c.from-r.ensures)

pub bounds-out-i : goal.bounds-out-i
bounds-out-i c =
    let next-at : Next c.loop-first.invariant c.loop-first-test.true c.from-q.result c.from-q.ensures = next _ _ _ _ in
    next-at.byte

pub overflow_add-i : goal.overflow_add-i
overflow_add-i c =
    let next-at : Next c.loop-first.invariant c.loop-first-test.true c.from-q.result c.from-q.ensures = next _ _ _ _ in
    let byte = next-at.byte in
    search (rules, byte)

pub overflow_sub-first-in-loop-first : goal.overflow_sub-first-in-loop-first
overflow_sub-first-in-loop-first c =
    let step_at : Step c.loop-first.invariant c.loop-first-test.true c.from-q.result c.from-q.ensures c.from-r.result c.owed_by-n.result
    c.from-r.ensures c.owed_by-n.ensures.0 =
    step _ _ _ _ _ _ _ _ in
    step_at.owes_few

pub slice_bounds-list-end : goal.slice_bounds-list-end
slice_bounds-list-end c = search (rules, c.loop-first.invariant.room)

pub list-requires : goal.list-requires
list-requires c =
    let step_at : Step c.loop-first.invariant c.loop-first-test.true c.from-q.result c.from-q.ensures c.from-r.result c.owed_by-n.result
    c.from-r.ensures c.owed_by-n.ensures.0 =
    step _ _ _ _ _ _ _ _ in
    step_at.lists

pub loop-first-smaller : goal.loop-first-smaller
loop-first-smaller c =
    let next-at : Next c.loop-first.invariant c.loop-first-test.true c.from-q.result c.from-q.ensures = next _ _ _ _ in
    omega (arith, c.loop-first.invariant.long, next-at.byte)

pub loop-first-preserved : goal.loop-first-preserved
loop-first-preserved c =
    let step_at : Step c.loop-first.invariant c.loop-first-test.true c.from-q.result c.from-q.ensures c.from-r.result c.owed_by-n.result
    c.from-r.ensures c.owed_by-n.ensures.0 =
    step _ _ _ _ _ _ _ _ in
    step_at.goes_on _ c.list.ensures

pub shape_of-out : goal.shape_of-out
shape_of-out c = c.loop-first.invariant.long

pub returns : goal.returns
returns c = write_done c.loop-first.invariant c.loop-first-test.false
