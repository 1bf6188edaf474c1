-- `vb_resume_saving`: the code is that of what `saving_calls::resume_saving` told; the buffers are as that call leaves them; what is promised of them
-- follows from that call's (`code_resumes_saving`). Assumes nothing.
-- Read first: specs/Codes (left_code, CodeResumesSaving), saving_calls/specs/Leaving (left_told, SavingRedelivers), proofs/Resuming.
use mathlib.Core.Path.{◌≡◌, ap, ◌∙◌}
use lib.ListN.{length}
use Rattle.checkpoint.specs.Resume.{resume_saving_call}
use Rattle.saving_calls.specs.Leaving.{left_told, lengths}
use Rattle.capi.specs.Codes.{left_code}
use Rattle.capi.proofs.Resuming.{code_resumes_saving}
use Rattle.capi.proofs.vb_resume_saving.Goals as goal

pub returns : goal.returns
returns c =
    let told : left_told c.resume_saving.result ≡ lengths
    (resume_saving_call c.args.kept.now c.args.budget (length c.args.res.now) (length c.args.saved.now)) =
    c.resume_saving.ensures.answer in
    let q = c.resume_saving.ensures in
    let a = c.left_code.ensures ∙ ap left_code told in
    record {
      value = a;
      res_after = q.res;
      saved_after = q.saved;
      delivery = code_resumes_saving _ _ _ _ _ _ _ _ told q.few q.delivery a;
    }
