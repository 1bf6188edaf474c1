-- `fill_sizes`: passes from the last node; sizes found are right, where a pass has found none no node from i on can have one, and where it has lost
-- none each of them has one. Assumes nothing. A size found lowers the count of noughts, else the pass goes on: `size_left` falls.
-- Read first: specs/Sizes (SizedTo), proofs/Sizing (Sizing).
use Rattle.sizing.proofs.Sizing.{sizing_start, sizing_all, sizing_circle, sizing_again, sizing_rounds, sizing_falls, sizing_room}
use Rattle.sizing.proofs.Sizing.{sizing_requires, sizing_old, sizing_lost, sizing_found, sizing_fewer}
use native.Mathlib.Omega.{arith}
use Rattle.sizing.proofs.fill_sizes.Goals as goal

pub loop-i-init : goal.loop-i-init
loop-i-init c = sizing_start _ _ _ _ _ c.requires

pub bounds-sizes-i : goal.bounds-sizes-i
bounds-sizes-i c = sizing_room _ _ _ _ _ _ _ _ _ c.loop-i.invariant c.if-i-gt0.true

pub size_at-requires : goal.size_at-requires
size_at-requires c =
    let all = sizing_requires _ _ _ _ _ _ _ _ _ c.loop-i.invariant c.if-i-gt0.true in
    record {
      sized = all.0;
      i_in_bounds = all.1;
    }

pub overflow_cast-sizes : goal.overflow_cast-sizes
overflow_cast-sizes c = omega (arith, c.in-Some.ensures.2)

pub bounds-sizes-i-in-Some : goal.bounds-sizes-i-in-Some
bounds-sizes-i-in-Some c = sizing_room _ _ _ _ _ _ _ _ _ c.loop-i.invariant c.if-i-gt0.true

pub loop-i-smaller-in-Some : goal.loop-i-smaller-in-Some
loop-i-smaller-in-Some c = sizing_fewer _ _ _ _ _ _ _ _ _ c.loop-i.invariant c.if-i-gt0.true c.if-sizes-i-eq0.true _ c.in-Some.ensures

pub loop-i-preserved-in-Some : goal.loop-i-preserved-in-Some
loop-i-preserved-in-Some c = sizing_found _ _ _ _ _ _ _ _ _ c.loop-i.invariant c.if-i-gt0.true c.if-sizes-i-eq0.true _ c.in-Some.ensures

pub loop-i-smaller-in-None : goal.loop-i-smaller-in-None
loop-i-smaller-in-None c = sizing_falls _ _ _ _ _ _ _ _ _ c.loop-i.invariant c.if-i-gt0.true

pub loop-i-preserved-in-None : goal.loop-i-preserved-in-None
loop-i-preserved-in-None c = sizing_lost _ _ _ _ _ _ _ _ _ c.loop-i.invariant c.if-i-gt0.true c.if-sizes-i-eq0.true c.in-None.ensures

pub loop-i-smaller-else-sizes-i-eq0 : goal.loop-i-smaller-else-sizes-i-eq0
loop-i-smaller-else-sizes-i-eq0 c = sizing_falls _ _ _ _ _ _ _ _ _ c.loop-i.invariant c.if-i-gt0.true

pub loop-i-preserved-else-sizes-i-eq0 : goal.loop-i-preserved-else-sizes-i-eq0
loop-i-preserved-else-sizes-i-eq0 c = sizing_old _ _ _ _ _ _ _ _ _ c.loop-i.invariant c.if-i-gt0.true c.if-sizes-i-eq0.false

pub returns-then-not-lost : goal.returns-then-not-lost
returns-then-not-lost c = sizing_all _ _ _ _ _ _ _ _ _ c.loop-i.invariant c.if-i-gt0.false c.if-not-lost.true

pub returns-then-not-found : goal.returns-then-not-found
returns-then-not-found c = sizing_circle _ _ _ _ _ _ _ _ _ c.loop-i.invariant c.if-i-gt0.false c.if-not-found.true c.if-not-lost.false

pub loop-i-smaller : goal.loop-i-smaller
loop-i-smaller c = sizing_rounds _ _ _ _ _ _ _ _ _ c.loop-i.invariant c.if-not-found.false

pub loop-i-preserved : goal.loop-i-preserved
loop-i-preserved c = sizing_again _ _ _ _ _ _ _ _ _ c.loop-i.invariant
