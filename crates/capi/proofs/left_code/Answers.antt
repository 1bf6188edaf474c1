-- `left_code`: each answer's code is the definition's. Assumes nothing.
-- Read first: specs/Codes (code, left_code), saving_calls/specs/Leaving (left_told).
use native.Mathlib.Omega.{arith}
use Rattle.saving_calls.specs.Leaving.{left_told}
use Rattle.capi.specs.Codes.{code, left_code}
use Rattle.capi.proofs.left_code.Goals as goal

pub returns-in-Ok : goal.returns-in-Ok
unfolding left_told left_code code
returns-in-Ok c = rw c.in-Ok.is (omega arith)

pub returns-in-Err : goal.returns-in-Err
unfolding left_told left_code
returns-in-Err c = rw c.in-Err.is c.refused.ensures
