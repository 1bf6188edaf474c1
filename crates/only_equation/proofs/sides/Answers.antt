-- `sides`: a lemma for each of its four returns: refused by `parse`, no equation, more than one, one. Assumes nothing.
-- Read first: specs/Places (IsSides, SidesAt), proofs/Singles.
use native.Mathlib.Omega.{arith}
use Rattle.problem.proofs.Handed.{handed_on}
use Rattle.only_equation.specs.Places.{IsSides}
use Rattle.only_equation.proofs.Singles.{sides_unread, sides_none, sides_more, sides_at}
use Rattle.only_equation.proofs.sides.Goals as goal

pub returns-in_err-input : goal.returns-in_err-input
returns-in_err-input c = handed_on (IsSides c.args.problem.now) _ _ c.from_residual.ensures.1 (sides_unread _ _ _ c.in_err-input.ensures.1)

pub field_at-requires : goal.field_at-requires
field_at-requires c = let A = c.in_ok-input.ensures.1 in A.1.within

pub returns-in_default : goal.returns-in_default
returns-in_default c =
    let A = c.in_ok-input.ensures.1 in
    sides_none _ _ _ _ _ A.0 A.1 c.in_default.ensures

pub returns-then-input-gt1 : goal.returns-then-input-gt1
returns-then-input-gt1 c =
    let A = c.in_ok-input.ensures.1 in
    let F = c.in-Some.ensures in
    sides_more _ _ _ _ _ A.0 A.1 _ _ _ F c.if-input-gt1.true

pub term_end-right-requires : goal.term_end-right-requires
term_end-right-requires c =
    let A = c.in_ok-input.ensures.1 in
    let F = c.in-Some.ensures in
    (omega (arith, F.low, F.within), omega (arith, A.1.small))

pub returns : goal.returns
returns c =
    let A = c.in_ok-input.ensures.1 in
    let F = c.in-Some.ensures in
    sides_at _ _ _ _ _ A.0 A.1 _ _ _ F c.if-input-gt1.false _ c.term_end-right.ensures.term
