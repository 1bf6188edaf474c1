-- `side_at`: a term, and its nodes counted; a lemma for each of its three returns. Assumes nothing.
-- Read first: specs/Answers (IsSide), proofs/Scanned.
use native.Mathlib.Omega.{arith}
use Rattle.reading.proofs.Scanned.{side_refused, side_large, side_fine}
use Rattle.reading.proofs.side_at.Goals as goal

pub overflow_sub-e : goal.overflow_sub-e
overflow_sub-e c = let X = c.in_ok-e.ensures in omega (arith, X.1.ends)

pub returns-in_err-e : goal.returns-in_err-e
returns-in_err-e c =
    side_refused _ c.requires.table _ _ _ c.requires.at_le_end.0 c.requires.at_le_end.1 _ c.in_err-e.ensures _ c.from_residual.ensures.1

pub returns-then-e-at-gt-NODES : goal.returns-then-e-at-gt-NODES
returns-then-e-at-gt-NODES c =
    let X = c.in_ok-e.ensures in
    side_large _ c.requires.table _ _ _ c.requires.at_le_end.0 c.requires.at_le_end.1 _ X.0 X.1 c.if-e-at-gt-NODES.true

pub returns : goal.returns
returns c =
    let X = c.in_ok-e.ensures in
    side_fine _ c.requires.table _ _ _ c.requires.at_le_end.0 c.requires.at_le_end.1 _ X.0 X.1 c.if-e-at-gt-NODES.false
