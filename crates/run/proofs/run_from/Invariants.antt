-- `run_from`: the invariant is that the turn at hand is on the way of a run where the first one is; what is left of the log falls. Assumes nothing.
-- Read first: specs/Runs (RunsFrom), proofs/Running (Looping, left-over).
use Rattle.run.proofs.Running.{Looping, left_over}
use Rattle.run.proofs.run_from.Given as goal

abbrev pub invariant-loop-t : goal.invariant-loop-t
invariant-loop-t l = Looping l.table l.inputs l.initial.t l.t

abbrev pub decreases-loop-t : goal.decreases-loop-t
decreases-loop-t l = left_over l.t
