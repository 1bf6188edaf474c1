-- `compare`: refused (`compare_unread`), or the answer of the two terms that begin at the sides' places (`compare_read`). Assumes nothing.
-- Read first: specs/Answers (compared-told), only_equation/specs/Places (SidesAt).
use mathlib.Core.Path.{◌≡◌}
use Rattle.completion.specs.Calls.{compare_call}
use Rattle.problem.proofs.Handed.{handed_on}
use Rattle.calls.specs.Answers.{compared_told}
use Rattle.calls.proofs.Comparing.{compare_unread, compare_read}
use Rattle.calls.proofs.compare.Goals as goal

pub returns-in_err-sides : goal.returns-in_err-sides
returns-in_err-sides c =
    handed_on (λ r. compared_told r ≡ compare_call c.args.problem.now) _ _ c.from_residual.ensures.1 (compare_unread _ _ c.in_err-sides.ensures)

pub returns : goal.returns
returns c =
    let A = c.in_ok-sides.ensures in
    compare_read _ _ _ _ _ _ A.1 _ c.comparison.ensures
