-- `vb_complete`: the code of each answer is that of what `complete::complete` told; the buffer is as that call leaves it; demand 3 follows from that
-- call's (`code_delivers`). Assumes nothing.
-- Read first: specs/Codes (answer_code, CodeDelivers), complete/specs/Answer (completed_told, counted, Delivery), proofs/Delivering.
use mathlib.Core.Path.{ap, ◌∙◌}
use Rattle.complete.specs.Answer.{completed_told}
use Rattle.capi.specs.Codes.{answer_code}
use Rattle.capi.proofs.Delivering.{code_delivers}
use Rattle.capi.proofs.vb_complete.Goals as goal

pub returns-in-Ok : goal.returns-in-Ok
unfolding completed_told answer_code
returns-in-Ok c =
    let q = c.complete.ensures in
    let a = c.code.ensures ∙ ap answer_code (rw c.in-Ok.is at q.answer) in
    record { value = a; res_after = q.bytes; delivery = code_delivers _ _ _ _ _ q.answer q.delivery a }

pub returns-in-Err : goal.returns-in-Err
unfolding completed_told answer_code
returns-in-Err c =
    let q = c.complete.ensures in
    let a = c.refused.ensures ∙ ap answer_code (rw c.in-Err.is at q.answer) in
    record { value = a; res_after = q.bytes; delivery = code_delivers _ _ _ _ _ q.answer q.delivery a }
