-- `rewrite`: a lemma for each return: no rule (`step_none`), no unit (`step_spent`), too large (`step_large`), rewritten (`step_done`). Assumes
-- nothing.
-- Read first: specs/Step (RewritesRoot), proofs/OneStep (Tried).
use Rattle.redex.proofs.OneStep.{tries, step_none, step_spent, step_large, step_done}
use Rattle.redex.proofs.rewrite.Goals as goal

pub returns-in_default : goal.returns-in_default
returns-in_default c = rw c.ended.ensures (step_none (tries c.sized.ensures c.requires.end_nonzero c.in_default.ensures))

pub returns-then-units-eq0 : goal.returns-then-units-eq0
returns-then-units-eq0 c =
    rw c.ended-then-units-eq0.ensures (step_spent (tries c.sized.ensures c.requires.end_nonzero c.in-Some.ensures) c.if-units-eq0.true)

pub returns-in_default-contract : goal.returns-in_default-contract
returns-in_default-contract c =
    rw c.ended-in_default-contract.ensures
    (step_large (tries c.sized.ensures c.requires.end_nonzero c.in-Some.ensures) c.in_default-contract.ensures c.if-units-eq0.false)

pub returns : goal.returns
returns c =
    rw c.ended-2.ensures
    (step_done (tries c.sized.ensures c.requires.end_nonzero c.in-Some.ensures) c.in-Some-contract.ensures c.if-units-eq0.false)
