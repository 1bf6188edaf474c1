-- `unify`: short buffer (`unify_short`), refused problem (`unify_unread`), or the answer of `common_instance`, which takes the two sides as they are laid
-- out (`unify_answers`). Assumes nothing.
-- Read first: specs/Answers (Unifies), completion/specs/Calls (unify-call, after-unify), only_equation/specs/Places (SidesAt), proofs/Unifying.
use lib.ListN.{length}
use Rattle.completion.specs.Calls.{unify_call}
use Rattle.problem.proofs.Handed.{handed_on}
use Rattle.calls.specs.Answers.{Unifies}
use Rattle.calls.proofs.Unifying.{unify_short, unify_unread, unify_two, unify_answers}
use Rattle.calls.proofs.unify.Goals as goal

pub returns-then-res-lt-BUFFER : goal.returns-then-res-lt-BUFFER
returns-then-res-lt-BUFFER c = unify_short _ _ c.if-res-lt-BUFFER.true

pub returns-in_err-sides : goal.returns-in_err-sides
returns-in_err-sides c =
    handed_on (λ r. Unifies (unify_call c.args.problem.now (length c.args.res.now)) r c.args.res.now c.args.res.now) _ _
    c.from_residual.ensures.1 (unify_unread _ _ c.if-res-lt-BUFFER.false _ c.in_err-sides.ensures)

pub common_instance-requires-clause-two_sides : goal.common_instance-requires-clause-two_sides
common_instance-requires-clause-two_sides c =
    let A = c.in_ok-sides.ensures in
    unify_two _ c.args.res.now c.if-res-lt-BUFFER.false _ _ _ _ _ A.1

pub returns : goal.returns
returns c =
    let A = c.in_ok-sides.ensures in
    unify_answers _ _ c.if-res-lt-BUFFER.false _ _ _ _ _ A.1 _ _ c.common_instance.ensures
