-- `due_after`: a lemma for each case. Assumes nothing.
-- Read first: proofs/Entries.
use Rattle.forms.proofs.Entries.{due_equal, due_complete, due_different, due_stopped}
use Rattle.forms.proofs.due_after.Goals as goal

pub returns-in_err-t : goal.returns-in_err-t
returns-in_err-t c = due_stopped _ _ _ _ c.from_residual.ensures.1 c.in_err-t.was

pub returns-then-not-waits : goal.returns-then-not-waits
returns-then-not-waits c = due_complete _ _ _ c.in_ok-t.was c.in-Equal.is c.if-not-waits.true

pub returns-in-Different : goal.returns-in-Different
returns-in-Different c = due_different _ _ _ c.in_ok-t.was c.with_room.ensures c.in-Different.is

pub returns-else-not-waits : goal.returns-else-not-waits
returns-else-not-waits c = due_equal _ _ _ c.in_ok-t.was c.with_room-in-Equal.ensures c.in-Equal.is c.if-not-waits.false
