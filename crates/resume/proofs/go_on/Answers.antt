-- `go_on`: `inputs::read` puts the record's equations into slots, and `run::run_from` is the definition's run of them (`record_run`). Assumes nothing.
-- Read first: specs/Resumes (RunsRecord), inputs/specs/Inputs (InputsRead), run/specs/Runs (RunsFrom), proofs/Standing.
use Rattle.resume.proofs.Standing.{record_run}
use Rattle.resume.proofs.go_on.Goals as goal

pub returns : goal.returns
returns c = record_run c.requires.1 c.read-inputs.ensures c.run_from.ensures
