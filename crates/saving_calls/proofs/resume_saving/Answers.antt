-- `resume_saving`: a lemma for each return: short buffer, refused record, what `leave` leaves of the run that goes on. The state that is made of the record
-- is fine and stands for the saved one. Assumes nothing.
-- Read first: specs/Leaving (LeavesBoth, SavingRedelivers), checkpoint/specs/Resume (resume-saving-call), resume/proofs/Standing, proofs/Answering.
use mathlib.Core.Path.{sym, ◌∙◌}
use native.Mathlib.Omega.{arith}
use Rattle.resume.proofs.Standing.{taken_needs}
use Rattle.items.proofs.Passed.{err_passed}
use Rattle.saving_calls.proofs.Answering.{room, resumes_short, resumes_refused, resumes_written}
use Rattle.saving_calls.proofs.resume_saving.Goals as goal

pub returns-then-short : goal.returns-then-short
returns-then-short c =
    let a = resumes_short _ _ _ _ (sym c.short.ensures ∙ c.if-short.true) in
    record {
      answer = a.answer;
      res = a.result;
      saved = a.saved;
      delivery = a.delivery;
      few = a.few;
    }

pub overflow_cast-budget : goal.overflow_cast-budget
overflow_cast-budget c =
    let q = taken_needs c.in_ok-loaded.ensures in
    record { fits = omega (arith, q.budget_few) }

pub go_on_saved-ran-requires : goal.go_on_saved-ran-requires
go_on_saved-ran-requires c =
    let q = taken_needs c.in_ok-loaded.ensures in
    record { front = (q.small, q.table, q.equations_few); first = (q.next_some, q.fine _) }

pub leave-requires : goal.leave-requires
leave-requires c =
    let q = taken_needs c.in_ok-loaded.ensures in
    let lent = room _ _ (sym c.short.ensures ∙ c.if-short.false) in
    let T = q.table in
    record {
      most_result_in_bounds = (omega (arith, lent.0), omega (arith, lent.1), c.go_on_saved-ran.ensures.fine);
      field_head_le_table_end = (omega (arith, T.low), T.within, T.high, q.equations_few);
    }

pub returns-in_err-loaded : goal.returns-in_err-loaded
returns-in_err-loaded c =
    let a = resumes_refused _ _ _ _ (sym c.short.ensures ∙ c.if-short.false) _ c.in_err-loaded.ensures in
    let up = err_passed _ c.from_residual.ensures.1 in
    record {
      answer = rw up a.answer;
      res = a.result;
      saved = a.saved;
      delivery = rw up a.delivery;
      few = rw up a.few;
    }

pub returns : goal.returns
returns c =
    let a = resumes_written _ _ _ _ (sym c.short.ensures ∙ c.if-short.false) c.in_ok-loaded.ensures c.go_on_saved-ran.ensures c.leave.ensures in
    record {
      answer = a.answer;
      res = a.result;
      saved = a.saved;
      delivery = a.delivery;
      few = a.few;
    }
