-- `run_from`: the invariant is that the turn at hand is on the way of a run where the first one is; what is left of the log falls. Assumes nothing.
-- Read first: specs/Runs (RunsFrom), proofs/Running (Looping, left-over).
use Rattle.run.proofs.Running.{looping_begins, loops_on, loop_falls, run_ended}
use mathlib.Core.Path.{refl}
use native.Mathlib.Omega.{arith}
use Rattle.run.proofs.run_from.Goals as goal

pub overflow_sub-result : goal.overflow_sub-result
overflow_sub-result c =
    let a = c.loop-t.invariant.within in
    let b = c.turn-t.ensures.safe.less in
    omega arith

pub returns-in-Some : goal.returns-in-Some
returns-in-Some c = run_ended c.turn-t.ensures c.loop-t.invariant c.in-Some.is refl

pub turn-t-requires-in-loop-t : goal.turn-t-requires-in-loop-t
turn-t-requires-in-loop-t c = (c.loop-t.invariant.fine, c.requires.1, c.requires.2)

pub loop-t-smaller : goal.loop-t-smaller
loop-t-smaller c = loop_falls c.loop-t.t _ c.in_default.is c.turn-t-in-loop-t.ensures.safe

pub loop-t-preserved : goal.loop-t-preserved
loop-t-preserved c = loops_on c.loop-t.invariant c.in_default.is c.turn-t-in-loop-t.ensures

pub loop-t-init : goal.loop-t-init
loop-t-init c = looping_begins c.turn-t.ensures
