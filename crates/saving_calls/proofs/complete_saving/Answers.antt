-- `complete_saving`: a lemma for each return: short buffer, refused problem, what `leave` leaves of the problem's run. Assumes nothing.
-- Read first: specs/Leaving (RunsProblem, LeavesBoth, SavingDelivers), checkpoint/specs/Resume (complete-saving-call), proofs/Answering.
use mathlib.Core.Path.{sym, ◌∙◌}
use native.Mathlib.Omega.{arith}
use Rattle.run.proofs.Begun.{accepted_needs}
use Rattle.items.proofs.Passed.{err_passed}
use Rattle.saving_calls.proofs.Answering.{room, completes_short, completes_refused, completes_written}
use Rattle.saving_calls.proofs.complete_saving.Goals as goal

pub returns-then-short : goal.returns-then-short
returns-then-short c =
    let a = completes_short _ _ _ (sym c.short.ensures ∙ c.if-short.true) in
    record {
      answer = a.answer;
      res = a.result;
      saved = a.saved;
      delivery = a.delivery;
      few = a.few;
    }

pub begin-ran-requires : goal.begin-ran-requires
begin-ran-requires c =
    let q = accepted_needs _ _ _ _ _ c.in_ok-input.ensures.1 in
    record {
      field_head_le_table_end = (q.low, q.within, q.small);
      count_le_most_equations = (q.few, q.budget);
    }

pub leave-requires : goal.leave-requires
leave-requires c =
    let q = accepted_needs _ _ _ _ _ c.in_ok-input.ensures.1 in
    let lent = room _ _ (sym c.short.ensures ∙ c.if-short.false) in
    record {
      most_result_in_bounds = (omega (arith, lent.0), omega (arith, lent.1), c.begin-ran.ensures.fine);
      field_head_le_table_end = (q.low, q.within, q.high, q.few);
    }

pub returns-in_err-input : goal.returns-in_err-input
returns-in_err-input c =
    let a = completes_refused _ _ _ (sym c.short.ensures ∙ c.if-short.false) _ c.in_err-input.ensures.1 in
    let up = err_passed _ c.from_residual.ensures.1 in
    record {
      answer = rw up a.answer;
      res = a.result;
      saved = a.saved;
      delivery = rw up a.delivery;
      few = rw up a.few;
    }

pub returns : goal.returns
returns c =
    let q = c.in_ok-input.ensures.1 in
    let a = completes_written _ _ _ (sym c.short.ensures ∙ c.if-short.false) q.1 c.begin-ran.ensures c.leave.ensures in
    record {
      answer = a.answer;
      res = a.result;
      saved = a.saved;
      delivery = a.delivery;
      few = a.few;
    }
