-- `vb_resume`: the code of each answer is that of what `resume::resume` told; the buffer is as that call leaves it; what is promised follows from that
-- call's (`code_resumes`). Assumes nothing.
-- Read first: specs/Codes (answer_code, CodeResumes), resume/specs/Resumes (resumed_told, Redelivers), proofs/Resuming.
use mathlib.Core.Path.{ap, ◌∙◌}
use Rattle.resume.specs.Resumes.{resumed_told}
use Rattle.capi.specs.Codes.{answer_code}
use Rattle.capi.proofs.Resuming.{code_resumes}
use Rattle.capi.proofs.vb_resume.Goals as goal

pub returns-in-Ok : goal.returns-in-Ok
unfolding resumed_told answer_code
returns-in-Ok c =
    let q = c.resume.ensures in
    let a = c.code.ensures ∙ ap answer_code (rw c.in-Ok.is at q.answer) in
    record { value = a; res_after = q.bytes; delivery = code_resumes _ _ _ _ _ _ q.answer q.few q.delivery a }

pub returns-in-Err : goal.returns-in-Err
unfolding resumed_told answer_code
returns-in-Err c =
    let q = c.resume.ensures in
    let a = c.refused.ensures ∙ ap answer_code (rw c.in-Err.is at q.answer) in
    record { value = a; res_after = q.bytes; delivery = code_resumes _ _ _ _ _ _ q.answer q.few q.delivery a }
