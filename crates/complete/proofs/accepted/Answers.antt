-- `accepted`: `inputs::read` puts the equations into slots, `run::run` is the definition's run of them, `report::report` writes its result
-- (`accepted_run`). Assumes nothing.
-- Read first: specs/Answer (WritesProblem), inputs/specs/Inputs (InputsRead), run/specs/Runs (Runs), proofs/Completing.
use Rattle.complete.proofs.Completing.{accepted_run}
use Rattle.complete.proofs.accepted.Goals as goal

pub returns : goal.returns
returns c = accepted_run _ _ _ _ _ _ _ c.read-inputs.ensures c.run-ran.ensures c.report.ensures
