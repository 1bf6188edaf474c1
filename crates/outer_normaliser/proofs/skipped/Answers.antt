-- `skipped`: a size only where the subterm ends at `clean` or before. Assumes nothing.
-- Read first: specs/Outer (Skipped).
use native.Mathlib.Omega.{arith}
use Rattle.outer_normaliser.proofs.skipped.Goals as goal

-- the test's fact goes through `omega`: a looser test leaves what stays true proved
pub returns : goal.returns
returns c =
    let n = c.size_of-n.ensures in
    record { few = n.1; some_node = omega arith; size = n.0; ends = omega arith }
