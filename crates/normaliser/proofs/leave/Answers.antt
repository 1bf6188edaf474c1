-- `leave`: beyond `len` (`leave_long`), or the end that the cell says (`leave_done`). Assumes nothing.
-- Read first: specs/Settled (LeftNormal), proofs/Settling.
use Rattle.normaliser.proofs.Settling.{leave_long, leave_done}
use Rattle.std.proofs.Common.{rules}
use Rattle.normaliser.proofs.leave.Goals as goal

pub returns-then-e-len : goal.returns-then-e-len
returns-then-e-len c = leave_long c.ended.ensures c.size_of-e.ensures.0 c.if-e-len.true

pub returns : goal.returns
returns c = leave_done c.ended-2.ensures c.size_of-e.ensures.0 c.if-e-len.false (search rules)
