-- `print`: a write that took n bytes of the rest leaves n more of them done. Assumes nothing.
-- Read first: `print` in src/lib.rt, proofs/Partly.
use Rattle.std.proofs.Common.{rules}
use Rattle.stored_cases.proofs.Partly.{more_done}
use Rattle.stored_cases.proofs.print.Goals as goal

pub loop-preserved : goal.loop-preserved
loop-preserved g c = (search rules, more_done _ _ _ _ _ _ c.loop.invariant.1 c.in_ok-done.ensures.bytes)
