-- `steps`: the invariant is that the definition goes on from the term in the cells. Assumes nothing.
-- Read first: specs/Outer (ReachedOuter), proofs/Reaching (Going).
use mathlib.Core.Path.{◌≡◌}
use Prim.Native.Nat.{◌≤◌}
use lib.ListN.{length}
use Rattle.limits.specs.Limits.{most_nodes}
use Rattle.outer_normaliser.proofs.Reaching.{Going}
use Rattle.outer_normaliser.proofs.steps.Given as goal

abbrev pub invariant-loop-r : goal.invariant-loop-r
invariant-loop-r l =
    (length l.t ≡ most_nodes) × (l.l ≤ most_nodes) × (l.u ≤ l.initial.u) ×
    Going l.system.table.now l.system.rules.now l.system.count l.initial.t l.initial.l l.initial.u l.t l.l l.clean l.u

abbrev pub decreases-loop-r : goal.decreases-loop-r
decreases-loop-r l = l.u
