-- `complete`: a lemma for each return: short buffer, refused problem, written result; demand 3 follows from each (`delivers`). Assumes nothing.
-- Read first: specs/Answer (completed-told, counted, Delivery), completion/specs/Calls (complete-call), proofs/Completing.
use Rattle.problem.proofs.Handed.{handed_on}
use Rattle.complete.proofs.Completing.{Answered, accepted_needs, answers_short, answers_refused, answers_written, delivers}
use native.Mathlib.Omega.{arith}
use Rattle.complete.proofs.complete.Goals as goal

pub returns-then-res-lt-BUFFER : goal.returns-then-res-lt-BUFFER
returns-then-res-lt-BUFFER c =
    let a = answers_short _ _ c.if-res-lt-BUFFER.true in
    record {
      answer = a.answer;
      bytes = a.bytes;
      delivery = delivers _ _ _ _ a;
    }

pub returns-in_err-input : goal.returns-in_err-input
returns-in_err-input c =
    let a = handed_on (Answered c.args.problem.now c.args.res.now c.args.res.now) _ _ c.from_residual.ensures.1
    (answers_refused _ _ c.if-res-lt-BUFFER.false _ c.in_err-input.ensures.1) in
    record {
      answer = a.answer;
      bytes = a.bytes;
      delivery = delivers _ _ _ _ a;
    }

pub accepted-requires : goal.accepted-requires
accepted-requires c =
    let q = accepted_needs _ _ _ _ _ c.in_ok-input.ensures.1 in
    record {
      table_in_bounds = (q.low, q.within, q.small);
      few = (q.few, q.budget, (let p = c.if-res-lt-BUFFER.false in omega arith));
    }

pub returns : goal.returns
returns c =
    let q = c.in_ok-input.ensures.1 in
    let a = answers_written _ _ c.if-res-lt-BUFFER.false q.0 q.1.is _ _ (c.accepted.ensures q.0 q.1) in
    record {
      answer = a.answer;
      bytes = a.bytes;
      delivery = delivers _ _ _ _ a;
    }
