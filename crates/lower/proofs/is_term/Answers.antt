-- `is_term`: too long, not a side, or a side that ends somewhere: `not_long`, `not_side`, `to_its_end`. Assumes nothing.
-- Read first: specs/Lower (whole-term), reading/specs/Answers (IsSide), proofs/Wholes.
use native.Mathlib.Omega.{arith}
use Rattle.lower.proofs.Wholes.{not_long, not_side, to_its_end}
use Rattle.lower.proofs.is_term.Goals as goal

pub returns-then-t-gt-NODES : goal.returns-then-t-gt-NODES
returns-then-t-gt-NODES c = not_long _ c.requires _ (omega (arith, c.if-t-gt-NODES.true))

pub side_at-requires : goal.side_at-requires
side_at-requires c =
    record {
      table = c.requires;
      at_le_end = (omega arith, omega arith, omega (arith, c.if-t-gt-NODES.false));
    }

pub returns-in-Err : goal.returns-in-Err
returns-in-Err c = not_side _ _ _ c.in-Err.ensures

pub returns-in-Ok : goal.returns-in-Ok
returns-in-Ok c =
    let A = c.in-Ok.ensures in
    to_its_end _ _ _ _ A.1
