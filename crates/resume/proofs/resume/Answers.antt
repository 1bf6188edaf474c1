-- `resume`: a lemma for each return: short buffer, refused record, written result. The state that is made of the record is fine and stands for the saved
-- one (`state_fine`, `run_leaves`). Assumes nothing.
-- Read first: specs/Resumes (IsTaken, RunsRecord, resumed-told, Redelivers), checkpoint/specs/Resume (resume-call), proofs/Standing, proofs/Answering.
use native.Mathlib.Omega.{arith}
use Rattle.items.proofs.Passed.{err_passed}
use Rattle.resume.proofs.Standing.{taken_needs}
use Rattle.resume.proofs.Answering.{answers_short, answers_refused, answers_written}
use Rattle.resume.proofs.resume.Goals as goal

pub returns-then-res-lt-BUFFER : goal.returns-then-res-lt-BUFFER
returns-then-res-lt-BUFFER c =
    let a = answers_short _ _ _ c.if-res-lt-BUFFER.true in
    record {
      answer = a.answer;
      bytes = a.bytes;
      delivery = a.delivery;
      few = a.few;
    }

pub returns-in_err-loaded : goal.returns-in_err-loaded
returns-in_err-loaded c =
    let a = answers_refused _ _ _ c.if-res-lt-BUFFER.false c.in_err-loaded.ensures in
    let up = err_passed _ c.from_residual.ensures.1 in
    record {
      answer = rw up a.answer;
      bytes = a.bytes;
      delivery = rw up a.delivery;
      few = rw up a.few;
    }

pub overflow_cast-budget : goal.overflow_cast-budget
overflow_cast-budget c =
    let q = taken_needs c.in_ok-loaded.ensures in
    record { fits = omega (arith, q.budget_few) }

pub go_on_saved-ran-requires : goal.go_on_saved-ran-requires
go_on_saved-ran-requires c =
    let q = taken_needs c.in_ok-loaded.ensures in
    record { front = (q.small, q.table, q.equations_few); first = (q.next_some, q.fine _) }

pub report-requires : goal.report-requires
report-requires c =
    record {
      most_result_in_bounds = omega (arith, c.if-res-lt-BUFFER.false);
      fine = c.go_on_saved-ran.ensures.fine;
    }

pub returns : goal.returns
returns c =
    let a = answers_written _ _ _ c.if-res-lt-BUFFER.false c.in_ok-loaded.ensures c.go_on_saved-ran.ensures c.report.ensures in
    record {
      answer = a.answer;
      bytes = a.bytes;
      delivery = a.delivery;
      few = a.few;
    }
