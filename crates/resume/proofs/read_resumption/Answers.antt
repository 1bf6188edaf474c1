-- `read_resumption`: what `loading::load` refuses is refused, and then a budget that is too large. Assumes nothing.
-- Read first: specs/Resumes (IsTaken), loading/specs/Loads (IsLoaded), proofs/Answering (taken_refused, taken_large, taken_fine).
use native.Mathlib.Omega.{arith}
use Rattle.resume.proofs.Answering.{taken_refused, taken_large, taken_fine}
use Rattle.resume.proofs.read_resumption.Goals as goal

pub returns-in-Err-Long : goal.returns-in-Err-Long
returns-in-Err-Long c = taken_refused _ _ (rw c.in-Err-Long.field-0-is at c.in-Err-Long.ensures)

pub returns-in-Err-Bad : goal.returns-in-Err-Bad
returns-in-Err-Bad c = taken_refused _ _ (rw c.in-Err-Bad.field-0-is at c.in-Err-Bad.ensures)

pub returns-then-budget : goal.returns-then-budget
returns-then-budget c = taken_large _ _ c.in-Ok.ensures.1.is (omega (arith, c.if-budget.true))

pub returns : goal.returns
returns c =
    let q = c.in-Ok.ensures in
    (q.0, taken_fine _ _ q.1 (omega (arith, c.if-budget.false)))
