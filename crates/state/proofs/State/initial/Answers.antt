-- `State::initial`: by `initial_done`. Assumes nothing.
-- Read first: specs/Steps (Initial), proofs/Changing.
use Rattle.state.proofs.Changing.{initial_done}
use Rattle.state.proofs.State.initial.Goals as goal

pub returns : goal.returns
returns c = initial_done _ _ _ c.requires.0 c.requires.1
