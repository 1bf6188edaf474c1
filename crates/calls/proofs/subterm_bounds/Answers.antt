-- `subterm_bounds`: refused (`bounds_unread`), a position past the left side (`bounds_past`), or the subterm there, whose end `term_end` finds
-- (`bounds_inside`). Assumes nothing.
-- Read first: specs/Answers (PartAt), only_equation/specs/Places (SidesAt), proofs/Parts.
use Rattle.calls.proofs.Parts.{bounds_unread, bounds_past, bounds_inside}
use native.Mathlib.Omega.{arith}
use Rattle.calls.proofs.subterm_bounds.Goals as goal

pub returns-in_default : goal.returns-in_default
returns-in_default c = bounds_unread _ _ _ _ c.in_default.ensures

pub returns-then-position-sides : goal.returns-then-position-sides
returns-then-position-sides c =
    let A = c.in-Ok.ensures in
    bounds_past _ _ _ _ _ _ _ A.1 (omega (arith, c.if-position-sides.true))

pub returns : goal.returns
returns c =
    let A = c.in-Ok.ensures in
    let n = c.term_end-end.ensures in
    bounds_inside _ _ _ _ _ _ _ A.1 c.if-position-sides.false _ n.term n.within.0 n.within.1
