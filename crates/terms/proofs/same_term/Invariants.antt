-- `terms::same_term` meets its contract. Assumes nothing.
-- Read first: proofs/InStep.
use Rattle.terms.proofs.InStep.{Walking}
use lib.ListN.{length}
use Rattle.terms.proofs.same_term.Given as goal

abbrev pub invariant-loop-b : goal.invariant-loop-b
invariant-loop-b l = Walking l.table l.s l.t (length l.yielded) l.owed
