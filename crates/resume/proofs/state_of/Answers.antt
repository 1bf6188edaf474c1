-- `state_of`: each part in its place. Assumes nothing.
-- Read first: specs/Resumes (state-of).
use mathlib.Core.Path.{refl}
use Rattle.resume.proofs.state_of.Goals as goal

pub returns : goal.returns
returns c = refl
