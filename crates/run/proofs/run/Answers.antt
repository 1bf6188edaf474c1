-- `run`: `run_from` from the state that stands for the first one (`run_initial`). Assumes nothing.
-- Read first: specs/Runs (Runs), state/specs/Steps (Initial), proofs/Running.
use Rattle.run.proofs.Running.{run_initial}
use Rattle.run.proofs.run.Goals as goal

pub returns : goal.returns
returns c = run_initial c.initial.ensures c.run_from.ensures
