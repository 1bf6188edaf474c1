-- `vb_complete_saving`: the code is that of what `saving_calls::complete_saving` told; the buffers are as that call leaves them; what is promised of them
-- follows from that call's (`code_saves`). Assumes nothing.
-- Read first: specs/Codes (left_code, CodeSaves), saving_calls/specs/Leaving (left-told, SavingDelivers), proofs/Resuming.
use mathlib.Core.Path.{ap, ◌∙◌}
use Rattle.capi.specs.Codes.{left_code}
use Rattle.capi.proofs.Resuming.{code_saves}
use Rattle.capi.proofs.vb_complete_saving.Goals as goal

pub returns : goal.returns
returns c =
    let q = c.complete_saving.ensures in
    let a = c.left_code.ensures ∙ ap left_code q.answer in
    record {
      value = a;
      res_after = q.res;
      saved_after = q.saved;
      delivery = code_saves _ _ _ _ _ _ _ q.answer q.few q.delivery a;
    }
