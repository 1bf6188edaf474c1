-- `first_redex`: the invariant is that no rule matches a node before i. Assumes nothing.
-- Read first: specs/Outer (FirstRedex), proofs/Looking (Looked).
use Prim.Native.Nat.{◌-◌}
use lib.ListN.{length}
use Rattle.outer_normaliser.proofs.Looking.{Looked}
use Rattle.outer_normaliser.proofs.first_redex.Given as goal

abbrev pub invariant-loop-i : goal.invariant-loop-i
invariant-loop-i l = Looked l.system.rules.now l.t l.clean l.system.count l.i

abbrev pub decreases-loop-i : goal.decreases-loop-i
decreases-loop-i l = length l.t - l.i
