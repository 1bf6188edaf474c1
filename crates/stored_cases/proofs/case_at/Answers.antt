-- `case_at`: a law for each return. Assumes nothing.
-- Read first: specs/Cases, proofs/Reading.
use Rattle.std.proofs.Common.{arith}
use Rattle.stored_cases.proofs.Reading.{no_head, cut_behind, whole}
use Rattle.stored_cases.proofs.case_at.Goals.{then-text-lt-HEAD-via-then-text-lt-HEAD, then-text-lt-HEAD-via-else-text-lt-HEAD+then-text-at}
use Rattle.stored_cases.proofs.case_at.Goals as goal

pub returns-then-text-lt-HEAD : goal.returns-then-text-lt-HEAD
returns-then-text-lt-HEAD c =
    elim c.then-text-lt-HEAD.branch [
      | then-text-lt-HEAD-via-then-text-lt-HEAD w ↦ no_head _ _ (omega arith)
      | then-text-lt-HEAD-via-else-text-lt-HEAD+then-text-at w ↦ no_head _ _ (omega arith)
    ]

pub returns-then-text-end : goal.returns-then-text-end
returns-then-text-end c =
    cut_behind _ _ (omega arith) (omega (arith, c.number.ensures.value, c.number-2.ensures.value))

pub returns : goal.returns
returns c =
    whole _ _ (omega arith) _ _ (omega (arith, c.number.ensures.value))
    (omega (arith, c.number.ensures.value, c.number-2.ensures.value)) c.if-text-end.false
