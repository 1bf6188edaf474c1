-- `not_above`: the invariant is that the rules before slot k are passed. Assumes nothing.
-- Read first: specs/Asking (FirstNotAbove), proofs/Downward.
use Prim.Native.Nat.{◌+◌, ◌*◌, ◌≤◌}
use Rattle.decide.proofs.Downward.{Passed}
use Rattle.decide.proofs.not_above.Given as goal

abbrev pub invariant-loop-k : goal.invariant-loop-k
invariant-loop-k l = (l.place ≤ 11 + 245 * l.k) × Passed l.system.table.now l.system.rules.now l.system.count l.place l.k
