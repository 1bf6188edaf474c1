-- `begin`: `inputs::read` puts the problem's equations into slots, and `run::run` is the definition's run of them (`runs_problem`). Assumes nothing.
-- Read first: specs/Leaving (RunsProblem), inputs/specs/Inputs (InputsRead), run/specs/Runs (Runs), proofs/Writing.
use Rattle.saving_calls.proofs.Writing.{runs_problem}
use Rattle.saving_calls.proofs.begin.Goals as goal

pub returns : goal.returns
returns c = runs_problem c.read-inputs.ensures c.run.ensures
