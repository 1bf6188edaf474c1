-- `State::take`: the first slot behind the rules is removed, if there is one, by `take_done` and `take_none`. Assumes nothing.
-- Read first: specs/Steps (Takes), proofs/Changing.
use Rattle.state.proofs.Changing.{take_done, take_none}
use Rattle.state.proofs.State.take.Goals as goal

pub returns-then-k-n : goal.returns-then-k-n
returns-then-k-n c = take_done _ c.requires c.if-k-n.true _ c.remove.ensures

pub returns-else-k-n : goal.returns-else-k-n
returns-else-k-n c = take_none _ c.requires c.if-k-n.false
